-- The greatest need that counts of the entries before the index is found.
use Rattle.std.proofs.Common.{◌≡◌}
use Rattle.plan_forest.specs.Carried.{carried_of}
use Rattle.watch_machine.proofs.Needed.{counted}
use Rattle.watch_machine.proofs.wanted.need_of.Given as goal

abbrev pub invariant-loop-below : goal.invariant-loop-below
invariant-loop-below l = l.most ≡ carried_of (counted l.forest.entries l.tracks l.clocks l.is_free) l.now l.index l.below
