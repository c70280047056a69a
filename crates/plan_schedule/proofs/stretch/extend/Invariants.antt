-- The wake-ups taken so far are those that the entry forces, and each turn takes more of them.
use Rattle.std.proofs.Common.{◌-◌}
use Rattle.plan_schedule.specs.code.Stretches.{Stretches}
use Rattle.plan_schedule.proofs.stretch.extend.Given as goal

abbrev pub invariant-loop-more : goal.invariant-loop-more
invariant-loop-more l = Stretches l.outlook l.entry l.first l.most l.fn.groups l.groups l.more l.last l.next

abbrev pub decreases-loop-more : goal.decreases-loop-more
decreases-loop-more l = l.most - l.more
