-- A live run is cut off by its inventory or its beginning, or else goes as far as it listens.
use Rattle.std.proofs.Common.{◌≡◌, ◌∙◌, ap, subst}
use Rattle.std.specs.Prelude.{Bool, List}
use Rattle.base_device.specs.Seen.{Change, change}
use Rattle.vault_inventory.specs.Inventories.{Inventory}
use Rattle.tick_runs.specs.LiveRun.{EndsEarly, RunIsOpened}
use Rattle.vault_served.specs.ForGood.{marks}
use Rattle.vault_served.proofs.ForGood.{places}
use Rattle.tick_runs.proofs.LiveListening.{early_lives, listened_lives, read_lives, unmarked_lives}
use Rattle.tick_runs.proofs.live.live.Goals as goal

pub returns-in_err-served : goal.returns-in_err-served
returns-in_err-served g c =
    read_lives _ c.args.bytes.now c.args.start (g.E.Exchange.behind c.args.exchange.now) c.from_residual.result c.in_err-served.field-0.0 _ _ _ _ c.from_residual.ensures c.in_err-served.ensures

pub returns-in_err-always : goal.returns-in_err-always
returns-in_err-always g c = unmarked_lives _ c.args.bytes.now c.args.start (g.E.Exchange.behind c.args.exchange.now) c.from_residual-in_err-always.result _ _ _ _ c.from_residual-in_err-always.ensures

pub begin-requires : goal.begin-requires
begin-requires g c =
    places c.in_ok-served.served c.into_parts-inventory.ensures.sound c.deref-2.result.now c.into_parts-inventory.result.1.items c.into_parts-inventory.result.0
    (c.deref-2.ensures.value ∙ c.in_ok-always.ensures ∙ ap marks c.deref.ensures.value) c.into_parts-inventory.ensures.notes c.into_parts-inventory.ensures.inventory

pub returns-in_err-agent : goal.returns-in_err-agent
returns-in_err-agent g c =
    let v = c.in_ok-served.served in
    let port = g.E.Exchange.host_port c.args.exchange.now in
    let before = g.E.Exchange.behind c.args.exchange.now in
    let out : Change = change g.W.Device.is_in_memory (g.W.Device.seen c.args.out.now) (g.W.Device.seen c.begin.new.out) in
    let always_is : c.deref-2.result.now ≡ marks v.notes = c.deref-2.ensures.value ∙ c.in_ok-always.ensures ∙ ap marks (c.deref.ensures.value ∙ c.into_parts-inventory.ensures.notes) in
    let over_served : EndsEarly port c.args.start c.deref-2.result.now (record { inventory = v.inventory; behind = before }) c.in_err-agent.field-0.0 out (g.E.Exchange.behind c.begin.new.exchange) =
    subst (λ (w : Inventory). EndsEarly port c.args.start c.deref-2.result.now (record { inventory = w; behind = before }) c.in_err-agent.field-0.0 out (g.E.Exchange.behind c.begin.new.exchange)) c.into_parts-inventory.ensures.inventory c.in_err-agent.ensures.early in
    early_lives port c.args.bytes.now c.args.start before c.from_residual-in_err-agent.result c.in_err-agent.field-0.0 v
    g.R.Device.is_in_memory (g.R.Device.seen c.args.events.now) out (g.E.Exchange.behind c.begin.new.exchange) c.in_ok-served.ensures c.from_residual-in_err-agent.ensures
    (subst (λ (l : List Bool). EndsEarly port c.args.start l (record { inventory = v.inventory; behind = before }) c.in_err-agent.field-0.0 out (g.E.Exchange.behind c.begin.new.exchange)) always_is over_served)

pub returns : goal.returns
returns g c =
    let v = c.in_ok-served.served in
    let port = g.E.Exchange.host_port c.args.exchange.now in
    let before = g.E.Exchange.behind c.args.exchange.now in
    let middle = g.E.Exchange.behind c.begin.new.exchange in
    let agent = c.in_ok-agent.agent in
    let out : Change = change g.W.Device.is_in_memory (g.W.Device.seen c.args.out.now) (g.W.Device.seen c.begin.new.out) in
    let always_is : c.deref-2.result.now ≡ marks v.notes = c.deref-2.ensures.value ∙ c.in_ok-always.ensures ∙ ap marks (c.deref.ensures.value ∙ c.into_parts-inventory.ensures.notes) in
    let over_served : RunIsOpened port c.args.start c.deref-2.result.now (record { inventory = v.inventory; behind = before }) agent.credentials agent.keeper middle out =
    subst (λ (w : Inventory). RunIsOpened port c.args.start c.deref-2.result.now (record { inventory = w; behind = before }) agent.credentials agent.keeper middle out) c.into_parts-inventory.ensures.inventory c.in_ok-agent.ensures.opened in
    listened_lives port c.args.bytes.now c.args.start before (g.E.Exchange.host_port c.begin.new.exchange) v _ _ _ _ _ _ _ c.listen.result _ _
    c.in_ok-served.ensures c.in_ok-agent.ensures.port
    (subst (λ (l : List Bool). RunIsOpened port c.args.start l (record { inventory = v.inventory; behind = before }) agent.credentials agent.keeper middle out) always_is over_served) c.listen.ensures.listens c.listen.ensures.flushed
