-- What was written before the connection gave up is a front of the request, and nothing was read.
use Rattle.base_device.specs.Seen.{change}
use Rattle.program_report.proofs.Pieces.{handed_on}
use Rattle.program_calls.proofs.Heard.{flushed, gave_up}
use Rattle.program_calls.proofs.hearing.give.Goals as goal

pub returns-in_err-write_all : goal.returns-in_err-write_all
returns-in_err-write_all g c =
    let r = c.from_residual.result in
    let fault = c.in_err-write_all.field-0.0 in
    gave_up r fault c.args.request.now (change g.L.Device.is_in_memory (g.L.Device.seen c.args.line.now) (g.L.Device.seen c.write_all.new.sink))
    (handed_on r fault c.from_residual.ensures) c.in_err-write_all.ensures.front c.in_err-write_all.ensures.input c.in_err-write_all.ensures.count c.in_err-write_all.ensures.memory

pub returns : goal.returns
returns g c =
    flushed (g.L.Device.seen c.args.line.now) (g.L.Device.seen c.write_all.new.sink) (g.L.Device.seen c.flush.new.self) g.L.Device.is_in_memory c.args.request.now c.flush.result
    c.in_ok-write_all.ensures.written c.in_ok-write_all.ensures.input c.in_ok-write_all.ensures.count
    c.flush.ensures.bytes c.flush.ensures.flushed c.flush.ensures.memory c.flush.ensures.input c.flush.ensures.count
