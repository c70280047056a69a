-- The tracks before the index are settled.
use Rattle.std.proofs.Common.{◌≡◌, map, slice_index_or}
use Rattle.std.specs.List.{All, range_with_len}
use Rattle.watch_machine.specs.{Settling.settled_track, State.no_track, code.Bounds.IsTrack}
use Rattle.watch_machine.proofs.settling.settled_tracks.Given as goal

abbrev pub invariant-loop-track : goal.invariant-loop-track
invariant-loop-track l = record {
  is : l.settled.items ≡ map (λ i. settled_track l.margin l.at (slice_index_or l.tracks i no_track)) (range_with_len 0 l.track-index);
  bounds : All IsTrack l.settled.items;
}
