-- A line is reported whatever the write and the flush answer.
use Rattle.program_report.proofs.Reporting.{reported}
use Rattle.program_words.specs.Advice.{advice_line}
use Rattle.program_words.proofs.advice.tell_line.Goals as goal

pub returns : goal.returns
returns g c =
    reported (advice_line c.args.program.now c.args.subject.now c.args.words.now) (g.E.Device.seen c.args.errors.now) (g.E.Device.seen c.put_line.new.errors) (g.E.Device.seen c.flush.new.self) g.E.Device.is_in_memory c.put_line.result c.flush.result
    c.put_line.ensures c.flush.ensures.bytes c.flush.ensures.flushed c.flush.ensures.memory c.flush.ensures.count
