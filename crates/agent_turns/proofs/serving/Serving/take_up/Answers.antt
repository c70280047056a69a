-- Once the answers came off their lanes, what comes after follows.
use Rattle.std.proofs.Common.{is_ok, refl, subst, sym}
use Rattle.vault_asking.specs.Sending.{Lanes, lanes_of}
use Rattle.agent_turns.specs.Held.{IsInStep, serving_side}
use Rattle.agent_turns.specs.Calls.{InStage, calls_of_answering, calls_of_reading}
use Rattle.agent_turns.specs.Stages.{AnswersCome, HandsInAnswers, nothing, of_answers}
use Rattle.agent_turns.proofs.InStep.{in_step_come}
use Rattle.agent_turns.proofs.Called.{both_with, first_with, not_ok}
use Rattle.agent_turns.proofs.serving.Serving.take_up.Goals as goal

pub hand_in_new-requires-clause-in_step : goal.hand_in_new-requires-clause-in_step
hand_in_new-requires-clause-in_step g c =
    let old : Lanes = lanes_of (g.L.Lanes.behind c.args.lanes.now) (g.L.Lanes.out c.args.lanes.now) (g.L.Lanes.seconds c.args.lanes.now) in
    let mid : Lanes = lanes_of (g.L.Lanes.behind c.come.new.lanes) (g.L.Lanes.out c.come.new.lanes) (g.L.Lanes.seconds c.come.new.lanes) in
    let step = in_step_come c.args.reading.elapsed (g.L.Lanes.width c.args.lanes.now) (serving_side c.args.self.now old) (serving_side c.come.new.self mid) c.in_ok-come.ensures.comes c.requires.in_step in
    subst (λ w. IsInStep w (g.L.Lanes.out c.come.new.lanes) c.come.new.self) (sym c.in_ok-come.ensures.width) step

pub returns-clause-goes : goal.returns-clause-goes
returns-clause-goes g c =
    let old : Lanes = lanes_of (g.L.Lanes.behind c.args.lanes.now) (g.L.Lanes.out c.args.lanes.now) (g.L.Lanes.seconds c.args.lanes.now) in
    let mid : Lanes = lanes_of (g.L.Lanes.behind c.come.new.lanes) (g.L.Lanes.out c.come.new.lanes) (g.L.Lanes.seconds c.come.new.lanes) in
    let new : Lanes = lanes_of (g.L.Lanes.behind c.hand_in_new.new.lanes) (g.L.Lanes.out c.hand_in_new.new.lanes) (g.L.Lanes.seconds c.hand_in_new.new.lanes) in
    let port = g.L.Lanes.host_port c.args.lanes.now in
    let r = c.args.reading in
    let a = c.args.neighbours.now in
    let goes = subst (λ p. InStage g.N.Neighbours.does (HandsInAnswers p r) (of_answers p r calls_of_answering (calls_of_reading r)) (serving_side c.come.new.self mid) (is_ok c.hand_in_new.result) (serving_side c.hand_in_new.new.self new) a c.hand_in_new.new.neighbours) c.in_ok-come.ensures.port c.hand_in_new.ensures.goes in
    both_with g.N.Neighbours.does (AnswersCome c.args.reading.elapsed) (HandsInAnswers port r) (nothing (AnswersCome c.args.reading.elapsed)) (of_answers port r calls_of_answering (calls_of_reading r)) (serving_side c.args.self.now old) (serving_side c.come.new.self mid) (serving_side c.hand_in_new.new.self new)
    (is_ok c.hand_in_new.result) a a c.hand_in_new.new.neighbours (record { is = c.in_ok-come.ensures.comes; called = refl }) goes

pub returns-in_err-come-clause-goes : goal.returns-in_err-come-clause-goes
returns-in_err-come-clause-goes g c =
    let old : Lanes = lanes_of (g.L.Lanes.behind c.args.lanes.now) (g.L.Lanes.out c.args.lanes.now) (g.L.Lanes.seconds c.args.lanes.now) in
    let mid : Lanes = lanes_of (g.L.Lanes.behind c.come.new.lanes) (g.L.Lanes.out c.come.new.lanes) (g.L.Lanes.seconds c.come.new.lanes) in
    let port = g.L.Lanes.host_port c.args.lanes.now in
    let r = c.args.reading in
    let a = c.args.neighbours.now in
    first_with g.N.Neighbours.does (AnswersCome c.args.reading.elapsed) (HandsInAnswers port r) (nothing (AnswersCome c.args.reading.elapsed)) (of_answers port r calls_of_answering (calls_of_reading r)) (serving_side c.args.self.now old) (serving_side c.come.new.self mid) (is_ok c.from_residual.result) a a
    (not_ok c.from_residual.result c.from_residual.ensures.0) (record { is = c.in_err-come.ensures.comes; called = refl })
