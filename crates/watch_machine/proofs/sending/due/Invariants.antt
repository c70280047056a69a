-- The places of those before the index that are due are gathered.
use Rattle.std.proofs.Common.{◌≡◌, filter, map}
use Rattle.std.specs.List.{range_with_len}
use Rattle.watch_machine.specs.{Clocks.sec, Lines.is_due, Sending.place, State.track_in, code.Places.place_is}
use Rattle.watch_machine.proofs.sending.due.Given as goal

abbrev pub invariant-loop-index : goal.invariant-loop-index
invariant-loop-index l =
    map place_is l.places.items
    ≡ map (place l.forest l.presence.away (sec l.at) l.tracks) (filter (λ i. is_due l.presence l.at (track_in l.tracks i)) (range_with_len 0 l.index))
