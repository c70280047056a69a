-- Once what was left over is sent, what comes after follows.
use Rattle.std.proofs.Common.{is_ok, refl, subst, sym}
use Rattle.vault_asking.specs.Sending.{Lanes, lanes_of}
use Rattle.agent_turns.specs.Held.{IsInStep, serving_side}
use Rattle.agent_turns.specs.Calls.{InStage, calls_of_answering, calls_of_reading}
use Rattle.agent_turns.specs.Stages.{OnHeld, SendsRequests, TakesAnswers, TakesUp, Then, nothing, of_left}
use Rattle.agent_turns.proofs.InStep.{in_step_gone}
use Rattle.agent_turns.proofs.Called.{both_with, first_with, not_ok}
use Rattle.agent_turns.proofs.serving.Serving.hand_in.Goals as goal

pub hand_in_left-requires-clause-in_step : goal.hand_in_left-requires-clause-in_step
hand_in_left-requires-clause-in_step g c =
    let old : Lanes = lanes_of (g.L.Lanes.behind c.args.lanes.now) (g.L.Lanes.out c.args.lanes.now) (g.L.Lanes.seconds c.args.lanes.now) in
    let mid : Lanes = lanes_of (g.L.Lanes.behind c.send_all.new.lanes) (g.L.Lanes.out c.send_all.new.lanes) (g.L.Lanes.seconds c.send_all.new.lanes) in
    let step = in_step_gone (g.L.Lanes.host_port c.args.lanes.now) (g.L.Lanes.width c.args.lanes.now) (serving_side c.args.self.now old) (serving_side c.send_all.new.self mid) c.in_ok-send_all.ensures.sends.0 c.requires.in_step in
    subst (λ w. IsInStep w (g.L.Lanes.out c.send_all.new.lanes) c.send_all.new.self) (sym c.in_ok-send_all.ensures.width) step

pub returns-clause-goes : goal.returns-clause-goes
returns-clause-goes g c =
    let old : Lanes = lanes_of (g.L.Lanes.behind c.args.lanes.now) (g.L.Lanes.out c.args.lanes.now) (g.L.Lanes.seconds c.args.lanes.now) in
    let mid : Lanes = lanes_of (g.L.Lanes.behind c.send_all.new.lanes) (g.L.Lanes.out c.send_all.new.lanes) (g.L.Lanes.seconds c.send_all.new.lanes) in
    let new : Lanes = lanes_of (g.L.Lanes.behind c.hand_in_left.new.lanes) (g.L.Lanes.out c.hand_in_left.new.lanes) (g.L.Lanes.seconds c.hand_in_left.new.lanes) in
    let port = g.L.Lanes.host_port c.args.lanes.now in
    let r = c.args.reading in
    let a = c.args.neighbours.now in
    let goes = subst (λ p. InStage g.N.Neighbours.does (Then (OnHeld TakesAnswers) (TakesUp p r)) (of_left p r calls_of_answering (calls_of_reading r)) (serving_side c.send_all.new.self mid) (is_ok c.hand_in_left.result) (serving_side c.hand_in_left.new.self new) a c.hand_in_left.new.neighbours) c.in_ok-send_all.ensures.port c.hand_in_left.ensures.goes in
    both_with g.N.Neighbours.does (SendsRequests port) (Then (OnHeld TakesAnswers) (TakesUp port r)) (nothing (SendsRequests port)) (of_left port r calls_of_answering (calls_of_reading r)) (serving_side c.args.self.now old) (serving_side c.send_all.new.self mid) (serving_side c.hand_in_left.new.self new)
    (is_ok c.hand_in_left.result) a a c.hand_in_left.new.neighbours (record { is = c.in_ok-send_all.ensures.sends; called = refl }) goes

pub returns-in_err-send_all-clause-goes : goal.returns-in_err-send_all-clause-goes
returns-in_err-send_all-clause-goes g c =
    let old : Lanes = lanes_of (g.L.Lanes.behind c.args.lanes.now) (g.L.Lanes.out c.args.lanes.now) (g.L.Lanes.seconds c.args.lanes.now) in
    let mid : Lanes = lanes_of (g.L.Lanes.behind c.send_all.new.lanes) (g.L.Lanes.out c.send_all.new.lanes) (g.L.Lanes.seconds c.send_all.new.lanes) in
    let port = g.L.Lanes.host_port c.args.lanes.now in
    let r = c.args.reading in
    let a = c.args.neighbours.now in
    first_with g.N.Neighbours.does (SendsRequests port) (Then (OnHeld TakesAnswers) (TakesUp port r)) (nothing (SendsRequests port)) (of_left port r calls_of_answering (calls_of_reading r)) (serving_side c.args.self.now old) (serving_side c.send_all.new.self mid) (is_ok c.from_residual.result) a a
    (not_ok c.from_residual.result c.from_residual.ensures.0) (record { is = c.in_err-send_all.ensures.sends; called = refl })
