-- The entries before the index are pressed or let go.
use Rattle.std.specs.List.{All}
use Rattle.plan_forest.specs.Forest.{entry_at}
use Rattle.watch_machine.specs.{Press.pressed_track, code.Bounds.IsTrack, code.View.need_at}
use Rattle.watch_machine.proofs.Written.{Written}
use Rattle.watch_machine.proofs.press.press_alone.Given as goal

abbrev pub invariant-loop-index : goal.invariant-loop-index
invariant-loop-index l = record {
  written : Written (λ i. pressed_track l.forest.margin (entry_at l.forest.entries i) (need_at l.needs i) l.at) l.initial.tracks l.tracks l.index;
  bounds : All IsTrack l.tracks;
}
