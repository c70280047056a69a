-- One entry more is looked up and its line sent, or the run stops at it.
use Rattle.std.proofs.Common.{◌<◌, Err, Ok, ap, arith, length, refl, subst, ◌∙◌}
use Rattle.base_device.specs.Seen.{change}
use Rattle.plan_forest.specs.Forest.{Forest}
use Rattle.tick_runs.specs.Looking.{Looked, LooksOneUp}
use Rattle.tick_runs.proofs.LookedUp.{looking_first, looking_stops, more}
use Rattle.tick_runs.proofs.live.looking.look_all_up.Goals as goal

pub loop-i-init : goal.loop-i-init
loop-i-init g c = record {
  looking = looking_first (g.E.Exchange.host_port c.args.exchange.now) c.args.start (record { inventory = c.args.inventory.now; behind = g.E.Exchange.behind c.args.exchange.now }) _ _;
  port = refl;
}

pub returns-in_err-look_one_up-clause-looked : goal.returns-in_err-look_one_up-clause-looked
returns-in_err-look_one_up-clause-looked g c =
    let below : c.loop-i.i < length c.loop-i.inventory.forest.entries =
    (let h = c.loop-i-test.true in let n = c.len.ensures.value in let f = ap (λ (h : Forest). length h.entries) c.forest.ensures.value in omega arith) in
    let now : Looked = record { inventory = c.loop-i.inventory; behind = g.E.Exchange.behind c.loop-i.exchange } in
    let out = (change g.W.Device.is_in_memory (g.W.Device.seen c.loop-i.out) (g.W.Device.seen c.look_one_up.new.out)) in
    looking_stops (g.E.Exchange.host_port c.args.exchange.now) c.args.start (record { inventory = c.args.inventory.now; behind = g.E.Exchange.behind c.args.exchange.now }) c.loop-i.i c.loop-i.inventory (g.E.Exchange.behind c.loop-i.exchange) _ _ _ _
    c.look_one_up.new.inventory (g.E.Exchange.behind c.look_one_up.new.exchange) c.from_residual.result c.in_err-look_one_up.field-0.0 c.from_residual.ensures c.loop-i.invariant.looking below
    (subst (λ p. LooksOneUp p c.args.start now c.loop-i.i (Err c.in_err-look_one_up.field-0.0) out c.look_one_up.new.inventory (g.E.Exchange.behind c.look_one_up.new.exchange)) c.loop-i.invariant.port c.in_err-look_one_up.ensures.looked)

pub loop-i-preserved : goal.loop-i-preserved
loop-i-preserved g c =
    let below : c.loop-i.i < length c.loop-i.inventory.forest.entries =
    (let h = c.loop-i-test.true in let n = c.len.ensures.value in let f = ap (λ (h : Forest). length h.entries) c.forest.ensures.value in omega arith) in
    let now : Looked = record { inventory = c.loop-i.inventory; behind = g.E.Exchange.behind c.loop-i.exchange } in
    let out = (change g.W.Device.is_in_memory (g.W.Device.seen c.loop-i.out) (g.W.Device.seen c.look_one_up.new.out)) in
    record {
      looking = more (g.E.Exchange.host_port c.args.exchange.now) c.args.start (record { inventory = c.args.inventory.now; behind = g.E.Exchange.behind c.args.exchange.now }) c.loop-i.i c.loop-i.inventory (g.E.Exchange.behind c.loop-i.exchange) _ _ _ _
          c.loop-i.invariant.looking below c.look_one_up.new.inventory (g.E.Exchange.behind c.look_one_up.new.exchange)
          (subst (λ p. LooksOneUp p c.args.start now c.loop-i.i (Ok tt) out c.look_one_up.new.inventory (g.E.Exchange.behind c.look_one_up.new.exchange)) c.loop-i.invariant.port c.in_ok-look_one_up.ensures.looked);
      port = c.in_ok-look_one_up.ensures.port ∙ c.loop-i.invariant.port;
    }
