-- The lines are reported whatever the write and the flush answer.
use Rattle.std.proofs.Common.{◌∷◌}
use Rattle.program_report.proofs.Reporting.{reported}
use Rattle.program_calls.specs.Lines.{call_lines}
use Rattle.program_calls.proofs.telling.tell_of_refusal.Goals as goal

pub returns : goal.returns
returns g c =
    reported (call_lines c.args.call.now (c.args.why.now ∷ c.args.more.now)) (g.E.Device.seen c.args.errors.now) (g.E.Device.seen c.put_reasons.new.errors) (g.E.Device.seen c.flush.new.self) g.E.Device.is_in_memory c.put_reasons.result c.flush.result
    c.put_reasons.ensures c.flush.ensures.bytes c.flush.ensures.flushed c.flush.ensures.memory c.flush.ensures.count
