-- Where the flush fails, what was written is a front of the text all the same.
use Rattle.vault_http.proofs.Sends.{unflushed}
use Rattle.vault_http.proofs.writing.send.Goals as goal

pub returns-in_err-flush-clause-front : goal.returns-in_err-flush-clause-front
returns-in_err-flush-clause-front g c =
    unflushed c.from_residual-in_err-flush.result (g.W.Device.seen c.args.sink.now).output.written (g.W.Device.seen c.write_all.new.sink).output.written (g.W.Device.seen c.flush.new.self).output.written c.args.text.now
    c.in_ok-write_all.ensures.written c.in_err-flush.ensures.bytes
