-- The program and the command, the socket, and what is said of it.
use Rattle.std.proofs.Common.{ap, sym}
use Rattle.base_device.specs.Seen.{change}
use Rattle.program_report.proofs.Pieces.{piece_more, piece_named}
use Rattle.program_calls.specs.Lines.{call_front, socket_line, socket_rest}
use Rattle.program_calls.proofs.telling.put_socket_line.Goals as goal

pub returns : goal.returns
unfolding socket_line
returns g c =
    let words = c.args.words.now in
    let rest = socket_rest c.args.call.now.socket.now words in
    piece_more c.put_of_socket.result _ (call_front c.args.call.now) rest _ (g.E.Device.seen c.put_front.new.errors) _ g.E.Device.is_in_memory c.in_ok-put_front.ensures
    (piece_named c.put_of_socket.result (socket_rest c.as_bytes.result.now words) rest (change g.E.Device.is_in_memory (g.E.Device.seen c.put_front.new.errors) (g.E.Device.seen c.put_of_socket.new.errors)) c.put_of_socket.ensures (ap (λ s. socket_rest s words) (sym c.as_bytes.ensures.value)))
