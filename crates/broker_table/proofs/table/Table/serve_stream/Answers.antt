-- Reading, serving and sending in turn streams a request, and leaves what was done where one of them fails.
use Rattle.std.proofs.Common.{OnErr, subst, sym}
use Rattle.std.proofs.KnownBytes.{Keeps-refl}
use Rattle.std.proofs.lemmas.Result.{err_from_is_err_and}
use Rattle.std.specs.Io.KnownBytes.{Appends, Keeps}
use Rattle.vault_http.specs.{declared.known.TheConstants.MOST_MESSAGE, Reading.SettlesRequest}
use Rattle.base_device.specs.Front.{AppendsFront}
use Rattle.base_device.specs.Seen.{Change, Input, change}
use Rattle.broker_table.specs.Stream.{Handles, IsFlushed, IsHandled, StreamFails, bytes_sent_of}
use Rattle.broker_table.proofs.Streamed.{handled_sent, left_by_sending, left_unserved, of_both}
use Rattle.broker_table.proofs.table.Table.serve_stream.Goals as goal

pub returns-clause-streamed : goal.returns-clause-streamed
returns-clause-streamed g c =
    let before = g.S.Device.seen c.args.stream.now in
    let read = g.S.Device.seen c.read_request-message.new.stream in
    let after = g.S.Device.seen c.send.new.stream in
    let done : IsHandled (change g.S.Device.is_in_memory before after) c.args.self.now c.args.t c.handle.new.self = record {
      message = c.read_request-message.result;
      read = subst (λ (now : Input). SettlesRequest MOST_MESSAGE before.input now c.read_request-message.result) (sym c.send.ensures.input) c.read_request-message.ensures.answer;
      done = c.in_ok-served.served;
      handled = subst (λ table. Handles table c.args.t c.read_request-message.result c.handle.new.self c.in_ok-served.served) c.read_request-message.ensures.kept c.in_ok-served.ensures.handled;
    } in
    of_both (Appends read.output.written after.output.written (bytes_sent_of c.in_ok-served.served)) (IsFlushed c.in_ok-served.served after.output.is_flushed) _ c.send.result
    (λ sent flushed. record { done = done; sent = subst (λ o. Appends o.written after.output.written (bytes_sent_of c.in_ok-served.served)) c.read_request-message.ensures.output sent; flushed = flushed })
    c.send.ensures.written c.send.ensures.flushed

pub returns-clause-left : goal.returns-clause-left
returns-clause-left g c =
    let before = g.S.Device.seen c.args.stream.now in
    let read = g.S.Device.seen c.read_request-message.new.stream in
    let after = g.S.Device.seen c.send.new.stream in
    let stream : Change = change g.S.Device.is_in_memory before after in
    let done : IsHandled stream c.args.self.now c.args.t c.handle.new.self = record {
      message = c.read_request-message.result;
      read = subst (λ (now : Input). SettlesRequest MOST_MESSAGE before.input now c.read_request-message.result) (sym c.send.ensures.input) c.read_request-message.ensures.answer;
      done = c.in_ok-served.served;
      handled = subst (λ table. Handles table c.args.t c.read_request-message.result c.handle.new.self c.in_ok-served.served) c.read_request-message.ensures.kept c.in_ok-served.ensures.handled;
    } in
    left_by_sending stream c.args.self.now c.handle.new.self c.args.t c.send.result _ _ c.send.ensures.count done
    (subst (λ o. OnErr c.send.result (AppendsFront o.written after.output.written (bytes_sent_of c.in_ok-served.served))) c.read_request-message.ensures.output c.send.ensures.front)

pub returns-in_err-served-clause-left : goal.returns-in_err-served-clause-left
returns-in_err-served-clause-left g c =
    let p = err_from_is_err_and c.from_residual.result c.from_residual.ensures.1 in
    let before = g.S.Device.seen c.args.stream.now in
    let after = g.S.Device.seen c.read_request-message.new.stream in
    left_unserved (change g.S.Device.is_in_memory before after) c.args.self.now _ c.args.t c.read_request-message.result
    c.read_request-message.ensures.answer (subst (λ o. Keeps before.output.written o.written) (sym c.read_request-message.ensures.output) (Keeps-refl before.output.written)) c.in_err-served.field-0.0
    (subst (λ table. StreamFails table c.args.t c.read_request-message.result c.in_err-served.field-0.0 c.handle.new.self) c.read_request-message.ensures.kept c.in_err-served.ensures.failed) c.from_residual.result p.0 p.1 p.2

pub send-requires : goal.send-requires
send-requires g c =
    record { status = handled_sent c.read_request-message.new.self c.args.t c.read_request-message.result c.handle.new.self c.in_ok-served.served c.in_ok-served.ensures.handled }
