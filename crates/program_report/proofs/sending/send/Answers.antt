-- Where the flush fails, what was written is a front of the text, and the answer says why it stopped.
use Rattle.std.specs.Io.KnownBytes.{Appends}
use Rattle.program_report.proofs.Fronts.{unsent, whole_front}
use Rattle.program_report.proofs.sending.send.Goals as goal

pub returns-in_err-flush-clause-sent : goal.returns-in_err-flush-clause-sent
returns-in_err-flush-clause-sent g c =
    let old = (g.W.Device.seen c.args.out.now).output.written in
    let mid = g.W.Device.seen c.write_all.new.sink in
    let whole : Appends old mid.output.written c.args.text.now = c.in_ok-write_all.ensures.written in
    unsent c.from_residual-in_err-flush.result c.in_err-flush.field-0.0 c.args.text.now _ mid.failed_calls c.from_residual-in_err-flush.ensures
    (whole_front old mid.output.written (g.W.Device.seen c.flush.new.self).output.written c.args.text.now whole c.in_err-flush.ensures.bytes)
    c.in_ok-write_all.ensures.count c.in_err-flush.ensures.count c.in_err-flush.ensures.memory
