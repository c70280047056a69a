-- Once all entries are looked up and planned the keeper is ready, and each step that fails ends the run early.
use Rattle.std.proofs.Common.{◌≡◌, ◌∙◌, ◌++◌, ap, length, refl, sym, subst}
use Rattle.base_device.specs.Seen.{Change, change}
use Rattle.program_report.specs.declared.stop.Stop.TheVariants as stops
use Rattle.plan_forest.specs.Forest.{Forest}
use Rattle.tick_keeper.specs.State.{CoreState}
use Rattle.tick_runs.specs.{Agent.RunAgent, Hearing.IsBetweenEvents, LiveRun.RunIsOpened, Text.short_need_lines, Looking.Looked, Looking.first_indices}
use Rattle.tick_runs.proofs.{Rehearsed.fit_opened, Rehearsed.ready_opened, LookedUp.same_count, Within.AreOf, Within.replan_within}
use Rattle.tick_runs.proofs.LiveOpening.{for_err, memory_ends, opens, planning_ends, sending_ends}
use Rattle.tick_runs.proofs.Opened.{planned_as, refused_as, stopped_as}
use Rattle.vault_inventory.specs.Inventories.{Inventory}
use Rattle.vault_start.proofs.Started.{kept_credentials}
use Rattle.tick_runs.proofs.live.begin.Goals as goal

pub push_short_lines-requires : goal.push_short_lines-requires
push_short_lines-requires g c =
    let k = c.in_ok-keeper.keeper in
    let all = replan_within _ c.args.start k refl (planned_as c.into_parts-forest.result.0 c.args.start c.new-made.result c.in_ok-keeper.keeper c.new-made.ensures.opened c.in_ok-keeper.ensures.keeper c.in_ok-keeper.ensures.stop) in
    subst (λ n. AreOf n c.list.result.now) (sym (ap (λ (h : Forest). length h.entries) (c.forest.ensures ∙ ap (λ (s : CoreState). s.forest) c.take_shortened-short.ensures.after)))
    (subst (AreOf (length k.forest.entries)) (sym (c.list.ensures ∙ c.take_shortened-short.ensures.value)) all)

pub returns-clause-ready : goal.returns-clause-ready
returns-clause-ready g c =
    subst (λ (agent : RunAgent). IsBetweenEvents agent.keeper) (sym c.new.ensures) (ready_opened c.into_parts-forest.result.0 c.args.start c.in_ok-keeper.keeper c.take_shortened-short.new.self (planned_as c.into_parts-forest.result.0 c.args.start c.new-made.result c.in_ok-keeper.keeper c.new-made.ensures.opened c.in_ok-keeper.ensures.keeper c.in_ok-keeper.ensures.stop) c.take_shortened-short.ensures.after)

pub new-requires : goal.new-requires
new-requires g c =
    fit_opened c.need_always.new.inventory c.into_parts-forest.result.0 c.into_parts-forest.result.1 c.args.start c.in_ok-keeper.keeper c.take_shortened-short.new.self c.into_parts-forest.ensures.sound
    c.into_parts-forest.ensures.forest c.into_parts-forest.ensures.credentials (planned_as c.into_parts-forest.result.0 c.args.start c.new-made.result c.in_ok-keeper.keeper c.new-made.ensures.opened c.in_ok-keeper.ensures.keeper c.in_ok-keeper.ensures.stop) c.take_shortened-short.ensures.after

pub returns-in_err-keeper-clause-early : goal.returns-in_err-keeper-clause-early
returns-in_err-keeper-clause-early g c =
    for_err c.from_residual-in_err-keeper.result c.in_err-keeper.field-0.0 _ c.from_residual-in_err-keeper.ensures
    (planning_ends (g.E.Exchange.host_port c.args.exchange.now) c.args.start c.args.always.now (record { inventory = c.args.inventory; behind = g.E.Exchange.behind c.args.exchange.now }) c.look_all_up.new.inventory (g.E.Exchange.behind c.look_all_up.new.exchange)
    (g.W.Device.seen c.args.out.now) (g.W.Device.seen c.look_all_up.new.out) (g.W.Device.seen c.look_all_up.new.out) g.W.Device.is_in_memory c.in_ok-look_all_up.ensures.looked
    c.into_parts-forest.result.0 c.in_err-keeper.field-0.0 (c.into_parts-forest.ensures.forest ∙ ap (λ (v : Inventory). v.forest) c.in_ok-need_always.ensures.needed) (stopped_as c.into_parts-forest.result.0 c.args.start c.new-made.result c.in_err-keeper.field-0.0 c.new-made.ensures.refused c.in_err-keeper.ensures.keeper c.in_err-keeper.ensures.stop))

pub need_always-requires : goal.need_always-requires
need_always-requires g c =
    c.requires
    ∙ sym (same_count (g.E.Exchange.host_port c.args.exchange.now) c.args.start (record { inventory = c.args.inventory; behind = g.E.Exchange.behind c.args.exchange.now }) (first_indices (length c.args.inventory.forest.entries))
    (record { inventory = c.look_all_up.new.inventory; behind = g.E.Exchange.behind c.look_all_up.new.exchange }) c.in_ok-look_all_up.ensures.looked.looked)

pub returns-in_err-need_always-clause-early : goal.returns-in_err-need_always-clause-early
returns-in_err-need_always-clause-early g c =
    for_err c.from_residual-in_err-need_always.result stops.Memory _ c.from_residual-in_err-need_always.ensures
    (memory_ends (g.E.Exchange.host_port c.args.exchange.now) c.args.start c.args.always.now (record { inventory = c.args.inventory; behind = g.E.Exchange.behind c.args.exchange.now }) c.look_all_up.new.inventory (g.E.Exchange.behind c.look_all_up.new.exchange)
    (g.W.Device.seen c.args.out.now) (g.W.Device.seen c.look_all_up.new.out) (g.W.Device.seen c.look_all_up.new.out) g.W.Device.is_in_memory c.in_ok-look_all_up.ensures.looked stops.Memory refl)

pub returns-in_err-push_short_lines-clause-early : goal.returns-in_err-push_short_lines-clause-early
returns-in_err-push_short_lines-clause-early g c =
    for_err c.from_residual-in_err-push_short_lines.result stops.Memory _ c.from_residual-in_err-push_short_lines.ensures
    (memory_ends (g.E.Exchange.host_port c.args.exchange.now) c.args.start c.args.always.now (record { inventory = c.args.inventory; behind = g.E.Exchange.behind c.args.exchange.now }) c.look_all_up.new.inventory (g.E.Exchange.behind c.look_all_up.new.exchange)
    (g.W.Device.seen c.args.out.now) (g.W.Device.seen c.look_all_up.new.out) (g.W.Device.seen c.look_all_up.new.out) g.W.Device.is_in_memory c.in_ok-look_all_up.ensures.looked stops.Memory refl)

pub returns-in_err-send-clause-early : goal.returns-in_err-send-clause-early
returns-in_err-send-clause-early g c =
    let k = c.in_ok-keeper.keeper in
    let lines : c.deref.result.now ≡ short_need_lines k.forest k.shortened =
    c.deref.ensures.value ∙ c.in_ok-push_short_lines.ensures
    ∙ ap (λ l. l ++ short_need_lines c.forest.result.now c.list.result.now) c.new-text.ensures.items
    ∙ ap (λ h. short_need_lines h c.list.result.now) (c.forest.ensures ∙ ap (λ (s : CoreState). s.forest) c.take_shortened-short.ensures.after)
    ∙ ap (short_need_lines k.forest) (c.list.ensures ∙ c.take_shortened-short.ensures.value) in
    for_err c.from_residual-in_err-send.result c.in_err-send.field-0.0 _ c.from_residual-in_err-send.ensures
    (sending_ends (g.E.Exchange.host_port c.args.exchange.now) c.args.start c.args.always.now (record { inventory = c.args.inventory; behind = g.E.Exchange.behind c.args.exchange.now }) c.look_all_up.new.inventory (g.E.Exchange.behind c.look_all_up.new.exchange)
    (g.W.Device.seen c.args.out.now) (g.W.Device.seen c.look_all_up.new.out) (g.W.Device.seen c.send.new.out) g.W.Device.is_in_memory c.in_ok-look_all_up.ensures.looked
    c.into_parts-forest.result.0 k c.deref.result.now c.in_err-send.field-0.0 (c.into_parts-forest.ensures.forest ∙ ap (λ (v : Inventory). v.forest) c.in_ok-need_always.ensures.needed) (planned_as c.into_parts-forest.result.0 c.args.start c.new-made.result c.in_ok-keeper.keeper c.new-made.ensures.opened c.in_ok-keeper.ensures.keeper c.in_ok-keeper.ensures.stop) lines c.in_err-send.ensures.sent)

pub returns-clause-opened : goal.returns-clause-opened
returns-clause-opened g c =
    let k = c.in_ok-keeper.keeper in
    let lines : c.deref.result.now ≡ short_need_lines k.forest k.shortened =
    c.deref.ensures.value ∙ c.in_ok-push_short_lines.ensures
    ∙ ap (λ l. l ++ short_need_lines c.forest.result.now c.list.result.now) c.new-text.ensures.items
    ∙ ap (λ h. short_need_lines h c.list.result.now) (c.forest.ensures ∙ ap (λ (s : CoreState). s.forest) c.take_shortened-short.ensures.after)
    ∙ ap (short_need_lines k.forest) (c.list.ensures ∙ c.take_shortened-short.ensures.value) in
    let out : Change = change g.W.Device.is_in_memory (g.W.Device.seen c.args.out.now) (g.W.Device.seen c.send.new.out) in
    let before : Looked = record { inventory = c.args.inventory; behind = g.E.Exchange.behind c.args.exchange.now } in
    subst (λ (agent : RunAgent). RunIsOpened (g.E.Exchange.host_port c.args.exchange.now) c.args.start c.args.always.now before agent.credentials agent.keeper (g.E.Exchange.behind c.look_all_up.new.exchange) out) (sym c.new.ensures)
    (opens (g.E.Exchange.host_port c.args.exchange.now) c.args.start c.args.always.now (record { inventory = c.args.inventory; behind = g.E.Exchange.behind c.args.exchange.now }) c.look_all_up.new.inventory (g.E.Exchange.behind c.look_all_up.new.exchange)
    (g.W.Device.seen c.args.out.now) (g.W.Device.seen c.look_all_up.new.out) (g.W.Device.seen c.send.new.out) g.W.Device.is_in_memory c.in_ok-look_all_up.ensures.looked
    c.into_parts-forest.result.0 c.into_parts-forest.result.1 k c.take_shortened-short.new.self c.deref.result.now (c.into_parts-forest.ensures.forest ∙ ap (λ (v : Inventory). v.forest) c.in_ok-need_always.ensures.needed) (c.into_parts-forest.ensures.credentials ∙ ap (λ (v : Inventory). v.credentials) c.in_ok-need_always.ensures.needed ∙ kept_credentials c.look_all_up.new.inventory c.args.always.now c.args.start) (planned_as c.into_parts-forest.result.0 c.args.start c.new-made.result c.in_ok-keeper.keeper c.new-made.ensures.opened c.in_ok-keeper.ensures.keeper c.in_ok-keeper.ensures.stop)
    c.take_shortened-short.ensures.after lines c.in_ok-send.ensures.sent c.in_ok-send.ensures.count)

pub opened-requires : goal.opened-requires
opened-requires g c = refused_as c.into_parts-forest.result.0 c.args.start c.new-made.result c.new-made.ensures.refused
