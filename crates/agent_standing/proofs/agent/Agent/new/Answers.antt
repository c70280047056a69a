-- What is made is a fresh agent.
use Rattle.std.proofs.Common.{◌≡◌, ◌∙◌, List, ap, length, replicate, subst, sym}
use Rattle.plan_forest.specs.Forest.{Forest}
use Rattle.watch_machine.specs.State.{WatchState, opened}
use Rattle.agent_standing.specs.{declared.standing.EntryStanding.EntryStanding, Agent.IsAgent, Standings.fresh_standing}
use Rattle.agent_standing.proofs.Fresh.{fresh_is_agent}
use Rattle.agent_standing.proofs.agent.Agent.new.Goals as goal

pub invariant_of-result : goal.invariant_of-result
invariant_of-result c =
    let s = c.args.inventory in
    let forest : c.in_ok-forest.forest ≡ s.forest = c.in_ok-forest.ensures ∙ c.forest.ensures.value in
    let machine : c.in_ok-watch.watch ≡ opened s.forest c.args.width = c.in_ok-watch.ensures.opened ∙ ap (λ (g : Forest). opened g c.args.width) forest in
    let standings : c.in_ok-standings.standings.items ≡ replicate (length s.forest.entries) fresh_standing =
    c.in_ok-standings.ensures ∙ ap (λ n. replicate n fresh_standing) (c.len.ensures.value ∙ ap (λ (g : Forest). length g.entries) forest) in
    subst (λ (m : WatchState). IsAgent (record { machine = m; inventory = s; standings = c.in_ok-standings.standings.items; beginnings = 0 })) (sym machine)
    (subst (λ (xs : List EntryStanding). IsAgent (record { machine = opened s.forest c.args.width; inventory = s; standings = xs; beginnings = 0 })) (sym standings) (fresh_is_agent s c.args.width))
