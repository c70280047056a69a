-- The wake-ups that were counted, and those of the runs that are left, are all.
use Rattle.std.proofs.Common.{◌≡◌, ◌+◌, drop}
use Rattle.plan_rule.specs.Runs.{wake_count}
use Rattle.plan_certificate.proofs.writer.count_of.Given as goal

abbrev pub invariant-loop-run : goal.invariant-loop-run
invariant-loop-run l = l.total + wake_count (drop l.run-index l.runs) ≡ wake_count l.runs
