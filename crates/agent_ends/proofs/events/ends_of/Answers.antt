-- One entry more.
use Rattle.std.proofs.Common.{ap, ◌∙◌}
use Rattle.agent_standing.specs.declared.standing.EntryStanding.{EntryStanding}
use Rattle.vault_inventory.specs.Inventories.{Inventory}
use Rattle.agent_ends.specs.Ends.{end_with, ends_told_at}
use Rattle.agent_ends.proofs.Gathered.{told_step}
use Rattle.agent_ends.proofs.events.ends_of.Goals as goal

pub loop-index-preserved : goal.loop-index-preserved
loop-index-preserved c =
    let a = c.args.agent.now in
    let boot = c.args.boot.now in
    let i = c.loop-index.index in
    told_step (ends_told_at a boot) i c.loop-index.ends.items c.push_told.new.ends.items (end_with c.inventory-in-loop-index.result.now boot i c.standing.result.told) c.loop-index.invariant c.in_ok-push_told.ensures
    (ap (λ (v : Inventory). end_with v boot i c.standing.result.told) c.inventory-in-loop-index.ensures.value ∙ ap (λ (s : EntryStanding). end_with a.inventory boot i s.told) c.standing.ensures.value)
