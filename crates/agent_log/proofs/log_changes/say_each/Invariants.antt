-- Once the texts to come are said, all of them are.
use Rattle.std.proofs.Common.{drop, map}
use Rattle.agent_log.specs.{Lines.AreSaid, Lines.text_line, Rooms.Rooms}
use Rattle.agent_log.proofs.log_changes.say_each.Given as goal

abbrev pub invariant-loop-text : goal.invariant-loop-text
invariant-loop-text l = (last : Rooms) → AreSaid l.pen.form l.pen.moment (map (text_line l.level l.event) (drop l.text-index l.texts)) l.room last
    → AreSaid l.pen.form l.pen.moment (map (text_line l.level l.event) l.texts) l.initial.room last
