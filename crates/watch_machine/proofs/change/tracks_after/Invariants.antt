-- The tracks of the entries before the index are made.
use Rattle.std.proofs.Common.{◌≡◌, map}
use Rattle.std.specs.List.{All, range_with_len}
use Rattle.plan_forest.specs.Forest.{entry_at}
use Rattle.watch_machine.specs.{Change.track_by, Change.was_at, code.Bounds.IsTrack}
use Rattle.watch_machine.proofs.change.tracks_after.Given as goal

abbrev pub invariant-loop-index : goal.invariant-loop-index
invariant-loop-index l = record {
  is : l.after.items ≡ map (λ j. track_by l.at l.tracks (entry_at l.forest.entries j) (was_at l.was j)) (range_with_len 0 l.index);
  bounds : All IsTrack l.after.items;
}
