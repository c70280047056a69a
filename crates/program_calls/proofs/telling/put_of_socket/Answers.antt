-- The socket and what is said of it.
use Rattle.std.proofs.Common.{[], ◌∷◌, ◌++◌}
use Rattle.program_report.proofs.Pieces.{piece_more}
use Rattle.program_report.specs.FaultLine.{before_colon}
use Rattle.program_calls.specs.Lines.{socket_rest}
use Rattle.program_calls.proofs.telling.put_of_socket.Goals as goal

pub returns : goal.returns
unfolding socket_rest
returns g c =
    piece_more c.put_ended.result _ (before_colon c.args.socket.now) (c.args.words.now ++ 10 ∷ []) _ (g.E.Device.seen c.put_before_colon.new.errors) _ g.E.Device.is_in_memory c.in_ok-put_before_colon.ensures c.put_ended.ensures
