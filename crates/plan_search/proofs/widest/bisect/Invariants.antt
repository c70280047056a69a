-- The widest margin lies between the bounds, each turn brings them together, and the entries stay.
use Rattle.std.proofs.Common.{◌≡◌, ◌-◌}
use Rattle.plan_search.specs.code.Widening.{WidestIsBetween}
use Rattle.plan_search.proofs.widest.bisect.Given as goal

abbrev pub invariant-loop-low : goal.invariant-loop-low
invariant-loop-low l = WidestIsBetween l.initial.forest l.start l.most_wakes l.low l.high × (l.forest.entries ≡ l.initial.forest.entries)

abbrev pub decreases-loop-low : goal.decreases-loop-low
decreases-loop-low l = l.high - l.low.margin
