-- The time was handed in: what is commanded is to be sent, and what is short was said.
use Rattle.std.proofs.Common.{◌∙◌, IfSome, List, Ok, ap, subst, sym}
use Rattle.agent_standing.specs.{Agent.Agent, Turns.AgentTurn}
use Rattle.watch_machine.specs.{declared.command.WatchRequest.WatchRequest, declared.event.WatchEvent.TheVariants.Clock}
use Rattle.agent_turns.specs.{Held.Held, Neighbours.Hear, Neighbours.Time, Outlook.IsOutlook}
use Rattle.agent_turns.proofs.Read.{read_whole, ready_is}
use Rattle.agent_turns.proofs.serving.Serving.read.Goals as goal

pub returns-clause-reads : goal.returns-clause-reads
returns-clause-reads g c =
    let mid : Agent = c.outlook.new.agent in
    let between : Held = record { agent = mid; pending = c.self.inside.pending.items; unsent = c.from_vec.result.items; asked = c.args.reading; until = c.here-self-inside.result } in
    let made = ready_is c.args.reading c.args.self.now mid c.in-Go.requests c.in-Go.until c.here-self-inside.result c.self.inside.pending.items c.from_vec.result.items (ap (λ (h : Held). h.pending) c.self.view_is)
    (c.from_vec.ensures.items ∙ c.into_vec.ensures) c.here-self-inside.ensures in
    read_whole g.N.Neighbours.does c.args.reading c.args.self.now mid c.in-Go.requests c.in-Go.until c.in-Ok.output c.outlook.result between c.say_shorts.new.self c.args.neighbours.now c.hear.new.self c.say_shorts.new.neighbours c.requires.none c.in-Go.is
    (subst (λ (a : Agent). AgentTurn c.args.self.now.agent (Clock c.args.reading.wall c.args.reading.elapsed) (Ok c.in-Ok.output) a) (sym c.outlook.ensures.unchanged)
    (subst (λ (a : Agent). AgentTurn a (Clock c.args.reading.wall c.args.reading.elapsed) (Ok c.in-Ok.output) c.turn.new.self) (ap (λ (h : Held). h.agent) c.self.view_is) c.in-Ok.ensures.turn))
    (subst (λ (a : Agent). IfSome c.outlook.result (IsOutlook a.machine)) (sym c.outlook.ensures.unchanged) c.outlook.ensures.next) made c.say_shorts.ensures.rest
    (subst (λ (rs : List WatchRequest). g.N.Neighbours.does (Hear mid (Time c.in-Ok.output.notes rs c.outlook.result)) c.args.neighbours.now c.hear.new.self) c.list.ensures c.hear.ensures.does) c.say_shorts.ensures.said
