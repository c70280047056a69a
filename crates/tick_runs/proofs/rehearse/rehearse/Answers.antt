-- A rehearsal stops at its words or its opening, or else plays from the keeper that it opened.
use Rattle.std.proofs.Common.{◌≡◌, ◌∙◌, ◌++◌, ◌≤◌, Some, [], ap, length, refl, sym, subst}
use Rattle.base_device.specs.Seen.{Change, change}
use Rattle.base_moment.specs.declared.moment.TheConstants.{LAST}
use Rattle.plan_forest.specs.Forest.{Forest}
use Rattle.tick_keeper.specs.State.{CoreState}
use Rattle.broker_rule.specs.Table.{BrokerTable}
use Rattle.tick_runs.specs.{Agent.RunAgent, Hearing.IsBetweenEvents, code.Playing.MayCome, code.Playing.Plays, Stops.both, Text.short_need_lines}
use Rattle.tick_runs.proofs.Within.{AreOf, replan_within}
use Rattle.tick_runs.proofs.Rehearsed.{comes_first, fit_opened, ready_opened, memory_stopped, opening_stopped, plays_on, words_stopped}
use Rattle.tick_runs.proofs.Opened.{planned_as, refused_as, stopped_as}
use Rattle.vault_start.specs.Start.{inventory_at}
use Rattle.tick_runs.proofs.rehearse.rehearse.Goals as goal

pub returns-in_err-set_faults : goal.returns-in_err-set_faults
returns-in_err-set_faults g c =
    words_stopped (inventory_at c.args.script.now.start c.args.inventory.now) c.args.script.now.start c.args.script.now.faults.now c.in_ok-inventory.inventory c.from_residual-in_err-set_faults.result c.in_err-set_faults.field-0.0 c.in_ok-table.table c.set_faults.new.table _ _ c.args.exchange.now
    c.in_ok-inventory.ensures c.from_residual-in_err-set_faults.ensures c.in_err-set_faults.ensures

pub returns-in_err-keeper : goal.returns-in_err-keeper
returns-in_err-keeper g c =
    let sets = c.in_ok-set_faults.ensures in
    let table = sets.2 ∙ ap (λ (t : BrokerTable). record t { faults = sets.0 }) c.in_ok-table.ensures in
    let behind = c.give.ensures ∙ ap (λ (t : BrokerTable). record { table = t; wire = [] }) table in
    opening_stopped (inventory_at c.args.script.now.start c.args.inventory.now) c.args.script.now.start c.args.script.now.faults.now c.in_ok-inventory.inventory sets.0 c.into_parts-forest.result.0 c.from_residual-in_err-keeper.result c.in_err-keeper.field-0.0 _ _ c.args.exchange.now c.give.new.self
    c.in_ok-inventory.ensures sets.1 c.into_parts-forest.ensures.forest behind c.from_residual-in_err-keeper.ensures (stopped_as c.into_parts-forest.result.0 c.args.script.now.start c.new-made.result c.in_err-keeper.field-0.0 c.new-made.ensures.refused c.in_err-keeper.ensures.keeper c.in_err-keeper.ensures.stop)

pub push_short_lines-requires : goal.push_short_lines-requires
push_short_lines-requires g c =
    let k = c.in_ok-keeper.keeper in
    let all = replan_within _ c.args.script.now.start k refl (planned_as c.into_parts-forest.result.0 c.args.script.now.start c.new-made.result c.in_ok-keeper.keeper c.new-made.ensures.opened c.in_ok-keeper.ensures.keeper c.in_ok-keeper.ensures.stop) in
    subst (λ n. AreOf n c.list.result.now) (sym (ap (λ (h : Forest). length h.entries) (c.forest.ensures ∙ ap (λ (s : CoreState). s.forest) c.take_shortened-short.ensures.after)))
    (subst (AreOf (length k.forest.entries)) (sym (c.list.ensures ∙ c.take_shortened-short.ensures.value)) all)

pub returns-in_err-push_short_lines : goal.returns-in_err-push_short_lines
returns-in_err-push_short_lines g c =
    memory_stopped (inventory_at c.args.script.now.start c.args.inventory.now) c.args.script.now.start c.args.script.now.faults.now c.from_residual-in_err-push_short_lines.result _ _ c.args.exchange.now c.give.new.self c.from_residual-in_err-push_short_lines.ensures

pub play-requires-clause-ready : goal.play-requires-clause-ready
play-requires-clause-ready g c =
    subst (λ (agent : RunAgent). IsBetweenEvents agent.keeper) (sym c.new-agent.ensures) (ready_opened c.into_parts-forest.result.0 c.args.script.now.start c.in_ok-keeper.keeper c.take_shortened-short.new.self (planned_as c.into_parts-forest.result.0 c.args.script.now.start c.new-made.result c.in_ok-keeper.keeper c.new-made.ensures.opened c.in_ok-keeper.ensures.keeper c.in_ok-keeper.ensures.stop) c.take_shortened-short.ensures.after)

pub new-agent-requires : goal.new-agent-requires
new-agent-requires g c =
    fit_opened c.in_ok-inventory.inventory c.into_parts-forest.result.0 c.into_parts-forest.result.1 c.args.script.now.start c.in_ok-keeper.keeper c.take_shortened-short.new.self c.into_parts-forest.ensures.sound
    c.into_parts-forest.ensures.forest c.into_parts-forest.ensures.credentials (planned_as c.into_parts-forest.result.0 c.args.script.now.start c.new-made.result c.in_ok-keeper.keeper c.new-made.ensures.opened c.in_ok-keeper.ensures.keeper c.in_ok-keeper.ensures.stop) c.take_shortened-short.ensures.after

pub play-requires-clause-comes : goal.play-requires-clause-comes
play-requires-clause-comes g c =
    subst (λ (agent : RunAgent). MayCome agent.keeper.last (Some c.get.result)) (sym c.new-agent.ensures)
    (comes_first c.into_parts-forest.result.0 c.args.script.now.start c.get.result c.in_ok-keeper.keeper c.take_shortened-short.new.self (planned_as c.into_parts-forest.result.0 c.args.script.now.start c.new-made.result c.in_ok-keeper.keeper c.new-made.ensures.opened c.in_ok-keeper.ensures.keeper c.in_ok-keeper.ensures.stop) c.take_shortened-short.ensures.after c.get.ensures.value (subst (λ n. n ≤ LAST) c.get.ensures.value c.get.ensures.within))

pub returns : goal.returns
returns g c =
    let sets = c.in_ok-set_faults.ensures in
    let table = sets.2 ∙ ap (λ (t : BrokerTable). record t { faults = sets.0 }) c.in_ok-table.ensures in
    let behind = c.give.ensures ∙ ap (λ (t : BrokerTable). record { table = t; wire = [] }) table in
    let k = c.in_ok-keeper.keeper in
    let now = c.take_shortened-short.new.self in
    let lines : c.deref.result.now ≡ short_need_lines k.forest k.shortened =
    c.deref.ensures.value ∙ c.in_ok-push_short_lines.ensures
    ∙ ap (λ l. l ++ short_need_lines c.forest.result.now c.list.result.now) c.new-lines.ensures.items
    ∙ ap (λ h. short_need_lines h c.list.result.now) (c.forest.ensures ∙ ap (λ (s : CoreState). s.forest) c.take_shortened-short.ensures.after)
    ∙ ap (short_need_lines k.forest) (c.list.ensures ∙ c.take_shortened-short.ensures.value) in
    let out : Change = change g.W.Device.is_in_memory (g.W.Device.seen c.args.out.now) (g.W.Device.seen c.play.new.out) in
    let final = both c.play.new.agent.keeper (Some c.play.new.exchange) in
    let plays = subst (λ (agent : RunAgent). Plays agent.credentials (both agent.keeper (Some c.give.new.self)) c.get.result c.deref.result.now c.play.result final out) c.new-agent.ensures c.play.ensures in
    plays_on (inventory_at c.args.script.now.start c.args.inventory.now) c.args.script.now.faults.now c.in_ok-inventory.inventory sets.0 c.args.script.now.start c.get.result c.into_parts-forest.result.0 c.into_parts-forest.result.1 k now c.give.new.self c.deref.result.now c.play.result
    final c.play.new.exchange out c.args.exchange.now c.in_ok-inventory.ensures sets.1 c.into_parts-forest.ensures.forest c.into_parts-forest.ensures.credentials behind (planned_as c.into_parts-forest.result.0 c.args.script.now.start c.new-made.result c.in_ok-keeper.keeper c.new-made.ensures.opened c.in_ok-keeper.ensures.keeper c.in_ok-keeper.ensures.stop)
    c.take_shortened-short.ensures.after c.get.ensures.value lines plays refl

pub opened-requires : goal.opened-requires
opened-requires g c = refused_as c.into_parts-forest.result.0 c.args.script.now.start c.new-made.result c.new-made.ensures.refused
