-- The line so far has those of the entries before the index that fall short.
use Rattle.plan_schedule.specs.code.Queueing.{FillsLine}
use Rattle.plan_schedule.proofs.queue.waiting.Given as goal

abbrev pub invariant-loop-index : goal.invariant-loop-index
invariant-loop-index l = FillsLine l.outlook l.index l.line
