-- The tracks of the entries before the index are made.
use Rattle.std.proofs.Common.{◌≡◌, map, take}
use Rattle.std.specs.List.{All}
use Rattle.watch_machine.specs.{State.fresh_track, code.Bounds.IsTrack}
use Rattle.watch_machine.proofs.watch.fresh_tracks.Given as goal

abbrev pub invariant-loop-index : goal.invariant-loop-index
invariant-loop-index l = record { is : l.tracks.items ≡ map fresh_track (take l.index l.forest.entries); bounds : All IsTrack l.tracks.items }
