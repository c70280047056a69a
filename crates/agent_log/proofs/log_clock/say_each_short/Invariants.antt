-- Once the needs to come are said, all of them are.
use Rattle.std.proofs.Common.{drop, map}
use Rattle.agent_log.specs.{LinesOfClocks.short_log_line, Lines.AreSaid, Rooms.Rooms}
use Rattle.agent_log.proofs.log_clock.say_each_short.Given as goal

abbrev pub invariant-loop-short : goal.invariant-loop-short
invariant-loop-short l = (last : Rooms) → AreSaid l.pen.form l.pen.moment (map (short_log_line l.names) (drop l.short-index l.shorts)) l.room last
    → AreSaid l.pen.form l.pen.moment (map (short_log_line l.names) l.shorts) l.initial.room last
