-- What is said leaves all but what was said last.
use Rattle.std.proofs.Common.{◌≡◌, ◌∙◌, List, ap, subst, sym}
use Rattle.std.specs.List.{All}
use Rattle.watch_machine.proofs.Rewritten.{once}
use Rattle.agent_standing.specs.{declared.standing.EntryStanding.EntryStanding, Shorts.said_standings}
use Rattle.agent_standing.specs.Agent.{Agent, IsAgent, IsStanding}
use Rattle.agent_standing.proofs.Saying.{said_is_agent}
use Rattle.agent_standing.proofs.agent.Agent.say_shorts.Goals as goal

pub invariant_of-self : goal.invariant_of-self
invariant_of-self c =
    let old : Agent = record { machine = c.self.inside.watch; inventory = c.self.inside.inventory; standings = c.self.inside.standings.items; beginnings = c.self.inside.beginnings } in
    let written = once c.self.inside.standings c.deref_mut.result.now c.say.new.standings c.deref_mut.ensures.value c.say.auto.standings in
    let said : c.say.new.standings ≡ said_standings c.self.inside.watch c.self.inside.inventory.terms c.self.inside.standings.items = c.say.ensures.value ∙ ap (said_standings c.self.inside.watch c.self.inside.inventory.terms) c.deref_mut.ensures.value in
    subst (λ (xs : List EntryStanding). IsAgent (record { machine = c.self.inside.watch; inventory = c.self.inside.inventory; standings = xs; beginnings = c.self.inside.beginnings })) (sym (written ∙ said))
    (said_is_agent old c.self.invariant (subst (All IsStanding) said c.say.ensures.bounds))
