-- Once the time is handed in, what is commanded goes out.
use Rattle.std.proofs.Common.{true, false, is_ok, refl}
use Rattle.vault_asking.specs.Sending.{Lanes, lanes_of}
use Rattle.agent_turns.specs.{Calls.calls_of_reading, Calls.calls_of_readings, Held.serving_side}
use Rattle.agent_turns.specs.Stages.{OnHeld, SendsRequests, TakesReadings, nothing}
use Rattle.agent_turns.proofs.InStep.{in_step_read}
use Rattle.agent_turns.proofs.Called.{both_with, first_with, held_with, not_ok}
use Rattle.agent_turns.proofs.serving.Serving.command.Goals as goal

pub send_all-requires : goal.send_all-requires
send_all-requires g c = record { in_step = in_step_read c.args.reading (g.L.Lanes.width c.args.lanes.now) (g.L.Lanes.out c.args.lanes.now) c.args.self.now c.read.new.self c.in_ok-read.ensures.reads.is c.requires.in_step }

pub returns-clause-goes : goal.returns-clause-goes
returns-clause-goes g c =
    let old : Lanes = lanes_of (g.L.Lanes.behind c.args.lanes.now) (g.L.Lanes.out c.args.lanes.now) (g.L.Lanes.seconds c.args.lanes.now) in
    let new : Lanes = lanes_of (g.L.Lanes.behind c.send_all.new.lanes) (g.L.Lanes.out c.send_all.new.lanes) (g.L.Lanes.seconds c.send_all.new.lanes) in
    let port = g.L.Lanes.host_port c.args.lanes.now in
    let r = c.args.reading in
    let a = c.args.neighbours.now in
    let b = c.read.new.neighbours in
    both_with g.N.Neighbours.does (OnHeld (TakesReadings r)) (SendsRequests port) (calls_of_reading r) (nothing (SendsRequests port)) (serving_side c.args.self.now old) (serving_side c.read.new.self old) (serving_side c.send_all.new.self new)
    (is_ok c.send_all.result) a b b (held_with g.N.Neighbours.does (TakesReadings r) (calls_of_readings r) c.args.self.now c.read.new.self old true a b c.in_ok-read.ensures.reads) (record { is = c.send_all.ensures.sends; called = refl })

pub returns-in_err-read-clause-goes : goal.returns-in_err-read-clause-goes
returns-in_err-read-clause-goes g c =
    let old : Lanes = lanes_of (g.L.Lanes.behind c.args.lanes.now) (g.L.Lanes.out c.args.lanes.now) (g.L.Lanes.seconds c.args.lanes.now) in
    let port = g.L.Lanes.host_port c.args.lanes.now in
    let r = c.args.reading in
    first_with g.N.Neighbours.does (OnHeld (TakesReadings r)) (SendsRequests port) (calls_of_reading r) (nothing (SendsRequests port)) (serving_side c.args.self.now old) (serving_side c.read.new.self old) (is_ok c.from_residual.result) c.args.neighbours.now c.read.new.neighbours
    (not_ok c.from_residual.result c.from_residual.ensures.0) (held_with g.N.Neighbours.does (TakesReadings r) (calls_of_readings r) c.args.self.now c.read.new.self old false c.args.neighbours.now c.read.new.neighbours c.in_err-read.ensures.reads)
