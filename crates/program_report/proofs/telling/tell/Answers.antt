-- A line is reported whatever the write and the flush answer.
use Rattle.program_report.proofs.Reporting.{reported}
use Rattle.program_report.proofs.telling.tell.Goals as goal

pub returns : goal.returns
returns g c =
    reported c.args.line.now (g.E.Device.seen c.args.errors.now) (g.E.Device.seen c.put.new.errors) (g.E.Device.seen c.flush.new.self) g.E.Device.is_in_memory c.put.result c.flush.result
    c.put.ensures c.flush.ensures.bytes c.flush.ensures.flushed c.flush.ensures.memory c.flush.ensures.count
