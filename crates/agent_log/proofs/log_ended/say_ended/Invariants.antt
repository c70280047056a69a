-- Once it is said of the entries to come, it is said of all.
use Rattle.std.proofs.Common.{drop}
use Rattle.agent_log.specs.{LinesOfClocks.ended_lines, Lines.AreSaid, Rooms.Rooms}
use Rattle.agent_log.proofs.log_ended.say_ended.Given as goal

abbrev pub invariant-loop-entry : goal.invariant-loop-entry
invariant-loop-entry l = (last : Rooms) → AreSaid l.pen.form l.pen.moment (ended_lines l.agent l.entry (drop l.entry l.marks)) l.room last
    → AreSaid l.pen.form l.pen.moment (ended_lines l.agent 0 l.marks) l.initial.room last
