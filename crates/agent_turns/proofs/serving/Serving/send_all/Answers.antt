-- One request more goes out.
use Rattle.std.proofs.Common.{◌∙◌, ap, arith, length, subst, sym}
use Rattle.vault_asking.specs.Sending.{Lanes, lanes_of}
use Rattle.agent_turns.specs.{Held.IsInStep, Held.serving_side, code.Firsts.GoesFirst}
use Rattle.agent_turns.proofs.{InStep.in_step_gone, Sent.gone_on}
use Rattle.agent_turns.proofs.serving.Serving.send_all.Goals as goal

pub send_first-requires-clause-in_step : goal.send_first-requires-clause-in_step
send_first-requires-clause-in_step g c =
    let old : Lanes = lanes_of (g.L.Lanes.behind c.args.lanes.now) (g.L.Lanes.out c.args.lanes.now) (g.L.Lanes.seconds c.args.lanes.now) in
    let mid : Lanes = lanes_of (g.L.Lanes.behind c.loop.lanes) (g.L.Lanes.out c.loop.lanes) (g.L.Lanes.seconds c.loop.lanes) in
    let step = in_step_gone (g.L.Lanes.host_port c.args.lanes.now) (g.L.Lanes.width c.args.lanes.now) (serving_side c.args.self.now old) (serving_side c.loop.self mid) c.loop.invariant.gone c.requires.in_step in
    subst (λ w. IsInStep w (g.L.Lanes.out c.loop.lanes) c.loop.self) (sym c.loop.invariant.width) step

pub loop-preserved : goal.loop-preserved
loop-preserved g c =
    let old : Lanes = lanes_of (g.L.Lanes.behind c.args.lanes.now) (g.L.Lanes.out c.args.lanes.now) (g.L.Lanes.seconds c.args.lanes.now) in
    let mid : Lanes = lanes_of (g.L.Lanes.behind c.loop.lanes) (g.L.Lanes.out c.loop.lanes) (g.L.Lanes.seconds c.loop.lanes) in
    let new : Lanes = lanes_of (g.L.Lanes.behind c.send_first.new.lanes) (g.L.Lanes.out c.send_first.new.lanes) (g.L.Lanes.seconds c.send_first.new.lanes) in
    let first = subst (λ p. GoesFirst p (serving_side c.loop.self mid) (serving_side c.send_first.new.self new)) c.loop.invariant.port c.in_ok-send_first.ensures.sent in
    let fewer = ap length first.first in
    let left = c.loop.invariant.left in
    record {
      gone = gone_on (g.L.Lanes.host_port c.args.lanes.now) (serving_side c.args.self.now old) (serving_side c.loop.self mid) (serving_side c.send_first.new.self new) c.loop.invariant.gone first;
      left = omega (arith, fewer, left);
      width = c.in_ok-send_first.ensures.width ∙ c.loop.invariant.width;
      port = c.in_ok-send_first.ensures.port ∙ c.loop.invariant.port;
    }
