-- The program and the command.
use Rattle.std.proofs.Common.{◌∙◌, Ok, ap, sym}
use Rattle.base_device.specs.Seen.{change}
use Rattle.program_report.proofs.Pieces.{piece_more, piece_named}
use Rattle.program_calls.specs.{Asking.command_word, Lines.call_front}
use Rattle.program_report.specs.FaultLine.{before_colon}
use Rattle.program_calls.proofs.telling.put_front.Goals as goal

pub returns : goal.returns
unfolding call_front
returns g c =
    let program = before_colon c.args.call.now.program.now in
    let command = before_colon (command_word c.args.call.now.ask) in
    let is_in_memory = g.E.Device.is_in_memory in
    let old = g.E.Device.seen c.args.errors.now in
    let mid = g.E.Device.seen c.put_before_colon.new.errors in
    let new = g.E.Device.seen c.put_before_colon-2.new.errors in
    piece_more c.put_before_colon-2.result tt program command old mid new is_in_memory
    (piece_named (Ok tt) (before_colon c.as_bytes.result.now) program (change is_in_memory old mid) c.in_ok-put_before_colon.ensures (ap before_colon (sym c.as_bytes.ensures.value)))
    (piece_named c.put_before_colon-2.result (before_colon c.as_bytes-2.result.now) command (change is_in_memory mid new) c.put_before_colon-2.ensures (ap before_colon (sym (c.as_bytes-2.ensures.value ∙ c.command.ensures))))
