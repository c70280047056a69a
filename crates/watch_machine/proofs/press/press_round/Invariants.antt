-- Those whom the round asks before the index are pressed.
use Rattle.std.proofs.Common.{ℕ}
use Rattle.std.specs.List.{All}
use Rattle.watch_machine.specs.{Press.asked_track, code.Bounds.IsTrack}
use Rattle.watch_machine.proofs.Marked.{Marked}
use Rattle.watch_machine.proofs.press.press_round.Given as goal

abbrev pub invariant-loop-entry : goal.invariant-loop-entry
invariant-loop-entry l = record {
  marked : Marked (λ (j : ℕ). j) (λ i. asked_track l.at) l.initial.tracks l.tracks l.round l.entry-index;
  bounds : All IsTrack l.tracks;
}
