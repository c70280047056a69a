-- The index so far is that of the slots before the current place.
use Rattle.broker_table.specs.Index.{IsIndexOf}
use Rattle.broker_table.proofs.index.index_of.Given as goal

abbrev pub invariant-loop-place : goal.invariant-loop-place
invariant-loop-place l = IsIndexOf l.index l.slots l.place
