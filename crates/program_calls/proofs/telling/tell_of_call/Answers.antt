-- A line is reported whatever the write and the flush answer.
use Rattle.program_report.proofs.Reporting.{reported}
use Rattle.program_calls.specs.Lines.{call_line}
use Rattle.program_calls.proofs.telling.tell_of_call.Goals as goal

pub returns : goal.returns
returns g c =
    reported (call_line c.args.call.now c.args.words.now) (g.E.Device.seen c.args.errors.now) (g.E.Device.seen c.put_call_line.new.errors) (g.E.Device.seen c.flush.new.self) g.E.Device.is_in_memory c.put_call_line.result c.flush.result
    c.put_call_line.ensures c.flush.ensures.bytes c.flush.ensures.flushed c.flush.ensures.memory c.flush.ensures.count
