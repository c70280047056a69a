-- Those whose requests are before the index go out.
use Rattle.std.specs.List.{All}
use Rattle.watch_machine.specs.{declared.command.WatchRequest.WatchRequest, Sending.sent_track, code.Bounds.IsTrack}
use Rattle.watch_machine.proofs.Marked.{Marked}
use Rattle.watch_machine.proofs.sending.send_all.Given as goal

abbrev pub invariant-loop-request : goal.invariant-loop-request
invariant-loop-request l = record {
  marked : Marked (λ (r : WatchRequest). r.entry) (λ i. sent_track l.at) l.initial.tracks l.tracks l.requests l.request-index;
  bounds : All IsTrack l.tracks;
}
