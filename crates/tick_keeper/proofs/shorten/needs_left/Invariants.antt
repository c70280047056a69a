-- The list so far has the needs that shortening leaves to the entries before the index.
use Rattle.tick_keeper.specs.{code.Passes.AreNeeds, Shorten.need_left}
use Rattle.tick_keeper.proofs.shorten.needs_left.Given as goal

abbrev pub invariant-loop-index : goal.invariant-loop-index
invariant-loop-index l = AreNeeds l.index (need_left l.forest l.at) l.needs.items
