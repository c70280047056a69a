-- The first answer that waits is to a request that is out, and the neighbours hear of it.
use Rattle.std.proofs.Common.{◌≡◌, ◌≢◌, ◌∷◌, None, Ok, Some, ap, rules, slice_index_or, subst, sym}
use Rattle.agent_standing.specs.Turns.{AgentTurn}
use Rattle.vault_asking.specs.{Handing.out_of, Told.event_as, Told.said_to, declared.told.Said.Said}
use Rattle.vault_lanes.specs.declared.lanes.Answered.{Answered}
use Rattle.watch_machine.specs.{declared.command.WatchOutput.WatchOutput, declared.lanes.Out.Out}
use Rattle.agent_turns.specs.Held.{Held}
use Rattle.agent_turns.proofs.{InStep.first_out, Taken.first_heard}
use Rattle.agent_turns.proofs.serving.Serving.take_first.Goals as goal

pub request_of-request-requires : goal.request_of-request-requires
request_of-request-requires g c =
    let items = ap (λ (h : Held). h.pending) c.self.view_is in
    let first : c.index-answered.result.now ≡ slice_index_or c.args.self.now.pending 0 c.index-answered.result.now = cc (c.index-answered.ensures, items) in
    let machine = ap (λ (h : Held). h.agent.machine.out) c.self.view_is in
    let watched = ap (λ m. m.out) c.watch-watch.ensures.value in
    let is : c.out.result.now ≡ c.args.self.now.agent.machine.out = cc (c.out.ensures, watched, machine) in
    let there = first_out c.requires.in_step.0 c.requires.in_step.1.0 c.args.self.now c.index-answered.result.now c.requires.in_step.1.1 c.requires.some first in
    subst (λ out. out_of out c.index-answered.result.now.index ≢ None) (sym is) there

pub returns-clause-taken : goal.returns-clause-taken
returns-clause-taken g c =
    let old : Held = c.args.self.now in
    let new : Held = record { agent = c.turn.new.self; pending = c.pop_front.new.self.items; unsent = c.self.inside.unsent.items; asked = c.self.inside.asked; until = c.self.inside.until } in
    let a : Answered = c.index-answered.result.now in
    let request : Out = c.request_of-request.result in
    let said : Said = c.in_ok-said.said in
    let output : WatchOutput = c.in-Ok.output in
    let first : old.pending ≡ a ∷ new.pending = search rules in
    let is_out : out_of old.agent.machine.out a.index ≡ Some request = search rules in
    let said_is : said ≡ said_to old.agent.inventory request.operation a.index a.answer = search rules in
    let turn : AgentTurn old.agent (event_as request.operation a.index said.reply said.terms) (Ok output) new.agent = search rules in
    let held : new ≡ record old { agent = new.agent; pending = new.pending } = search rules in
    first_heard g.N.Neighbours.does old new a request said output c.args.neighbours.now c.hear.new.self first is_out said_is turn held c.hear.ensures.does
