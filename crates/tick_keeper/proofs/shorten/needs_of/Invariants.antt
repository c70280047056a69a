-- The list so far has the needs of the entries before the index.
use Rattle.plan_forest.specs.Forest.{entry_at}
use Rattle.tick_keeper.specs.code.Passes.{AreNeeds}
use Rattle.tick_keeper.proofs.shorten.needs_of.Given as goal

abbrev pub invariant-loop-index : goal.invariant-loop-index
invariant-loop-index l = AreNeeds l.index (λ i. (entry_at l.forest.entries i).need) l.needs.items
