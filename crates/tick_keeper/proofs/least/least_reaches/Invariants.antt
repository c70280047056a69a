-- The list so far has the least reaches of the entries before the index.
use Rattle.tick_keeper.specs.code.Passes.{AreLeast}
use Rattle.tick_keeper.proofs.least.least_reaches.Given as goal

abbrev pub invariant-loop-index : goal.invariant-loop-index
invariant-loop-index l = AreLeast l.forest l.at l.index l.reaches.items
