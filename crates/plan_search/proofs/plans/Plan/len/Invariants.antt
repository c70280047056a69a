-- Each turn moves the wake-ups of one run from those that are left to those that are counted.
use Rattle.std.proofs.Common.{◌≡◌, ◌+◌, drop, length}
use Rattle.plan_rule.specs.Runs.{all_wakes}
use Rattle.plan_search.proofs.plans.Plan.len.Given as goal

-- those counted, and those of the runs that are left, are all
abbrev pub invariant-loop-run : goal.invariant-loop-run
invariant-loop-run l = l.count + length (all_wakes (drop l.run-index l.run-items)) ≡ length (all_wakes l.self.runs)
