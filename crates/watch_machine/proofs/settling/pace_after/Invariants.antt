-- The pace is that after the answers before the index.
use Rattle.std.proofs.Common.{◌≡◌, drop}
use Rattle.watch_machine.specs.Settling.{pace_after}
use Rattle.watch_machine.proofs.settling.pace_after.Given as goal

abbrev pub invariant-loop-answer : goal.invariant-loop-answer
invariant-loop-answer l = pace_after l.at l.now (drop l.answer-index l.answers) ≡ pace_after l.at l.initial.now l.answers
