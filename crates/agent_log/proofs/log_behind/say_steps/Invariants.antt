-- Once the requests to come are said, all of them are.
use Rattle.std.proofs.Common.{drop}
use Rattle.agent_log.specs.{LinesBehind.steps_in_lines, Lines.AreSaid, Rooms.Rooms}
use Rattle.agent_log.proofs.log_behind.say_steps.Given as goal

abbrev pub invariant-loop-request : goal.invariant-loop-request
invariant-loop-request l = (last : Rooms) → AreSaid l.pen.form l.pen.moment (steps_in_lines l.agent l.lead l.marks (drop l.request-index l.requests)) l.room last
    → AreSaid l.pen.form l.pen.moment (steps_in_lines l.agent l.lead l.marks l.requests) l.initial.room last
