-- The moment is the least of those of the entries before the index.
use Rattle.std.proofs.Common.{◌≡◌, map}
use Rattle.std.specs.List.{range_with_len}
use Rattle.watch_machine.specs.Wanted.{least}
use Rattle.watch_scout.specs.Looking.{next_look}
use Rattle.watch_scout.proofs.scout.Scout.next.Given as goal

abbrev pub invariant-loop-index : goal.invariant-loop-index
invariant-loop-index l = l.least ≡ least l.until (map (next_look l.self l.watch l.until) (range_with_len 0 l.index))
