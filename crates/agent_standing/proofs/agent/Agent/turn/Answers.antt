-- Once the Watch has taken the event, the rest of the agent follows it.
use Rattle.std.proofs.Common.{◌∙◌, List, ap, length, subst, sym}
use Rattle.watch_machine.proofs.Rewritten.{once}
use Rattle.agent_standing.specs.{declared.standing.EntryStanding.EntryStanding, Agent.Agent, Agent.IsAgent, Standings.standings_after}
use Rattle.agent_standing.proofs.{Left.left_turn, Turned.turned_is_agent}
use Rattle.agent_standing.proofs.agent.Agent.turn.Goals as goal

pub stand-requires-clause-count : goal.stand-requires-clause-count
stand-requires-clause-count c =
    let turn = c.in_ok-output.ensures.turn in
    let left = left_turn c.self.inside.watch c.step.new.self c.args.event c.in_ok-output.output turn in
    ap length c.deref_mut.ensures.value ∙ c.self.invariant.standings ∙ sym c.self.invariant.entries ∙ sym left.entries

pub invariant_of-self-2 : goal.invariant_of-self-2
invariant_of-self-2 c =
    let old : Agent = record { machine = c.self.inside.watch; inventory = c.self.inside.inventory; standings = c.self.inside.standings.items; beginnings = c.self.inside.beginnings } in
    let new : Agent = record { machine = c.step.new.self; inventory = c.set_need.new.inventory; standings = c.stand.new.standings; beginnings = c.beginnings_after-self-inside.result } in
    let written = once c.self.inside.standings c.deref_mut.result.now c.stand.new.standings c.deref_mut.ensures.value c.stand.auto.standings in
    subst (λ (xs : List EntryStanding). IsAgent (record { machine = c.step.new.self; inventory = c.set_need.new.inventory; standings = xs; beginnings = c.beginnings_after-self-inside.result })) (sym written)
    (turned_is_agent old new c.args.event c.in_ok-output.output c.self.invariant
    (record {
      machine = c.in_ok-output.ensures.turn;
      inventory = c.set_need.ensures;
      standings = c.stand.ensures.value ∙ ap (standings_after c.step.new.self c.args.event) c.deref_mut.ensures.value;
      beginnings = c.beginnings_after-self-inside.ensures;
    }) c.stand.ensures.bounds)
