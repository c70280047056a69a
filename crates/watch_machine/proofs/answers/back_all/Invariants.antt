-- The tracks before the index are made anew.
use Rattle.std.specs.List.{All}
use Rattle.watch_machine.specs.{Answers.back_track, code.Bounds.IsTrack}
use Rattle.watch_machine.proofs.Written.{Written}
use Rattle.watch_machine.proofs.answers.back_all.Given as goal

abbrev pub invariant-loop-index : goal.invariant-loop-index
invariant-loop-index l = record { written : Written (λ i. back_track) l.initial.tracks l.tracks l.index; bounds : All IsTrack l.tracks }
