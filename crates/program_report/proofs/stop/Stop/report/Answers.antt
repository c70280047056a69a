-- The fault line is reported, as far as the write and the flush let it.
use Rattle.program_report.specs.FaultLine.{fault_line}
use Rattle.program_report.proofs.Reporting.{reported}
use Rattle.program_report.proofs.stop.Stop.report.Goals as goal

pub returns-clause-told : goal.returns-clause-told
returns-clause-told g c =
    reported (fault_line c.args.program.now c.args.self.now) (g.F.Device.seen c.args.errors.now) (g.F.Device.seen c.put_line.new.errors) (g.F.Device.seen c.flush.new.self) g.F.Device.is_in_memory
    c.put_line.result c.flush.result c.put_line.ensures c.flush.ensures.bytes c.flush.ensures.flushed c.flush.ensures.memory c.flush.ensures.count
