-- The list so far has the needs of the entries before the index.
use Rattle.std.proofs.Common.{◌≡◌, map}
use Rattle.std.specs.List.{range_with_len}
use Rattle.tick_keeper.specs.Always.{need_from}
use Rattle.tick_keeper.proofs.always.needs_from.Given as goal

abbrev pub invariant-loop-index : goal.invariant-loop-index
invariant-loop-index l = l.needs.items ≡ map (need_from l.forest l.always l.start) (range_with_len 0 l.index)
