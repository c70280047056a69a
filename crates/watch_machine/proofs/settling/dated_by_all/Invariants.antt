-- The clocks are dated by the answers before the index.
use Rattle.std.proofs.Common.{◌≡◌, ◌||◌, drop}
use Rattle.watch_machine.specs.{Settling.dated_by_all, Settling.steps, code.Bounds.IsClocks}
use Rattle.watch_machine.proofs.settling.dated_by_all.Given as goal

abbrev pub invariant-loop-answer : goal.invariant-loop-answer
invariant-loop-answer l = record {
  bounds : IsClocks l.now;
  clocks : dated_by_all l.now (drop l.answer-index l.answers) ≡ dated_by_all l.initial.now l.answers;
  stepped : l.stepped || steps l.now (drop l.answer-index l.answers) ≡ steps l.initial.now l.answers;
}
