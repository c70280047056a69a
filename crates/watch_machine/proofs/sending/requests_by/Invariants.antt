-- The requests of the places before the index are made.
use Rattle.std.proofs.Common.{◌≡◌, map, take}
use Rattle.watch_machine.specs.{declared.sending.Place.Place, Sending.request_of, State.track_in}
use Rattle.watch_machine.proofs.sending.requests_by.Given as goal

abbrev pub invariant-loop-place : goal.invariant-loop-place
invariant-loop-place l =
    l.requests.items
    ≡ map (λ (q : Place). request_of l.presence.away l.partial l.presence.pace q.entry (track_in l.tracks q.entry).attempt) (take l.place-index l.picked)
