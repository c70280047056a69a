-- Once the answers are handed in, what comes after follows.
use Rattle.std.proofs.Common.{true, false, is_ok}
use Rattle.vault_asking.specs.Sending.{Lanes, lanes_of}
use Rattle.agent_turns.specs.Held.{serving_side}
use Rattle.agent_turns.specs.Calls.{calls_of_answering, calls_of_reading, calls_of_taking}
use Rattle.agent_turns.specs.Stages.{TakesUp, OnHeld, TakesAnswers, of_coming}
use Rattle.agent_turns.proofs.InStep.{in_step_taken}
use Rattle.agent_turns.proofs.Called.{both_with, first_with, held_with, not_ok}
use Rattle.agent_turns.proofs.serving.Serving.hand_in_left.Goals as goal

pub take_up-requires-clause-in_step : goal.take_up-requires-clause-in_step
take_up-requires-clause-in_step g c = in_step_taken (g.L.Lanes.width c.args.lanes.now) (g.L.Lanes.out c.args.lanes.now) c.args.self.now c.take_all.new.self c.in_ok-take_all.ensures.takes.is.0 c.requires.in_step

pub returns-clause-goes : goal.returns-clause-goes
returns-clause-goes g c =
    let old : Lanes = lanes_of (g.L.Lanes.behind c.args.lanes.now) (g.L.Lanes.out c.args.lanes.now) (g.L.Lanes.seconds c.args.lanes.now) in
    let new : Lanes = lanes_of (g.L.Lanes.behind c.take_up.new.lanes) (g.L.Lanes.out c.take_up.new.lanes) (g.L.Lanes.seconds c.take_up.new.lanes) in
    let port = g.L.Lanes.host_port c.args.lanes.now in
    let r = c.args.reading in
    both_with g.N.Neighbours.does (OnHeld TakesAnswers) (TakesUp port r) calls_of_answering (of_coming port r calls_of_answering (calls_of_reading r)) (serving_side c.args.self.now old) (serving_side c.take_all.new.self old) (serving_side c.take_up.new.self new)
    (is_ok c.take_up.result) c.args.neighbours.now c.take_all.new.neighbours c.take_up.new.neighbours (held_with g.N.Neighbours.does TakesAnswers calls_of_taking c.args.self.now c.take_all.new.self old true c.args.neighbours.now c.take_all.new.neighbours c.in_ok-take_all.ensures.takes) c.take_up.ensures.goes

pub returns-in_err-take_all-clause-goes : goal.returns-in_err-take_all-clause-goes
returns-in_err-take_all-clause-goes g c =
    let old : Lanes = lanes_of (g.L.Lanes.behind c.args.lanes.now) (g.L.Lanes.out c.args.lanes.now) (g.L.Lanes.seconds c.args.lanes.now) in
    let port = g.L.Lanes.host_port c.args.lanes.now in
    let r = c.args.reading in
    first_with g.N.Neighbours.does (OnHeld TakesAnswers) (TakesUp port r) calls_of_answering (of_coming port r calls_of_answering (calls_of_reading r)) (serving_side c.args.self.now old) (serving_side c.take_all.new.self old) (is_ok c.from_residual.result) c.args.neighbours.now c.take_all.new.neighbours
    (not_ok c.from_residual.result c.from_residual.ensures.0) (held_with g.N.Neighbours.does TakesAnswers calls_of_taking c.args.self.now c.take_all.new.self old false c.args.neighbours.now c.take_all.new.neighbours c.in_err-take_all.ensures.takes)
