-- The groups only shrink from what they were at first, so that the turns end.
use Rattle.plan_schedule.specs.code.Groups.{Shrinks, size_of_groups}
use Rattle.plan_schedule.proofs.groups.settle.Given as goal

abbrev pub invariant-loop-groups : goal.invariant-loop-groups
invariant-loop-groups l = Shrinks l.outlook l.at l.initial.groups l.groups

abbrev pub decreases-loop-groups : goal.decreases-loop-groups
decreases-loop-groups l = size_of_groups l.groups
