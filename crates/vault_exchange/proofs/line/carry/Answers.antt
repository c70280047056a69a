-- What is read after the request is read of the bytes that were there, and a read that failed is counted.
use Rattle.std.proofs.Common.{Err, subst, sym}
use Rattle.std.specs.Io.KnownBytes.{Appends}
use Rattle.vault_http.specs.{declared.known.TheConstants.MOST_MESSAGE, Reading.SettlesReply, Written.request_text}
use Rattle.base_device.specs.Seen.{Input, Output}
use Rattle.vault_exchange.proofs.Counted.{counts_behind}
use Rattle.vault_exchange.proofs.line.carry.Goals as goal

pub returns-in-Err : goal.returns-in-Err
returns-in-Err g c =
    let first = g.S.Device.seen c.args.line.now in
    let last = g.S.Device.seen c.read_reply.new.reader in
    record {
      carried = (
        subst (λ (o : Output). Appends first.output.written o.written (request_text c.args.request.now)) (sym c.read_reply.ensures.output) c.in_ok-write_request.ensures.written,
        subst (λ (i : Input). SettlesReply MOST_MESSAGE i last.input (Err c.in-Err.fault)) c.write_request.ensures.input c.in-Err.ensures.answer,
      );
      count = counts_behind _ _ _ _ c.in_ok-write_request.ensures.count c.in-Err.ensures.count;
    }
