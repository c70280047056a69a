-- No entry before the current one is the first of an unkeepable pair.
use Rattle.std.proofs.Common.{ℕ, ◌<◌}
use Rattle.plan_forest.specs.Forest.{end_of}
use Rattle.plan_rule.specs.Unkeepable.{Unkeepable}
use Rattle.plan_search.proofs.falling_short.shortfall.Given as goal

abbrev pub invariant-loop-entry : goal.invariant-loop-entry
invariant-loop-entry l = (i f : ℕ) → i < l.entry → Unkeepable l.forest.entries l.forest.margin l.start (end_of l.forest.entries) i f → ⊥
