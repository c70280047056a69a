-- The tracks before the index are made anew.
use Rattle.std.specs.List.{All}
use Rattle.plan_needs.specs.Carried.{load_at}
use Rattle.watch_machine.specs.{Beginning.called_by, Beginning.owing, code.Bounds.IsTrack}
use Rattle.watch_machine.proofs.Written.{Written}
use Rattle.watch_machine.proofs.beginning.owe_all.Given as goal

abbrev pub invariant-loop-index : goal.invariant-loop-index
invariant-loop-index l = record {
  written : Written (λ i. owing l.at l.first (called_by l.dated (load_at l.needs i).need (load_at l.written i).need)) l.initial.tracks l.tracks l.index;
  bounds : All IsTrack l.tracks;
}
