-- The program and the command, and what is said.
use Rattle.std.proofs.Common.{[], ◌∷◌, ◌++◌}
use Rattle.program_report.proofs.Pieces.{piece_more}
use Rattle.program_calls.specs.Lines.{call_front, call_line}
use Rattle.program_calls.proofs.telling.put_call_line.Goals as goal

pub returns : goal.returns
unfolding call_line
returns g c =
    piece_more c.put_ended.result _ (call_front c.args.call.now) (c.args.words.now ++ 10 ∷ []) _ (g.E.Device.seen c.put_front.new.errors) _ g.E.Device.is_in_memory c.in_ok-put_front.ensures c.put_ended.ensures
