-- The first reason, and then the others.
use Rattle.program_report.proofs.Pieces.{piece_more}
use Rattle.program_calls.specs.Lines.{call_line, call_lines}
use Rattle.program_calls.proofs.telling.put_reasons.Goals as goal

pub returns : goal.returns
returns g c =
    piece_more c.put_call_lines.result _ (call_line c.args.call.now c.args.why.now) (call_lines c.args.call.now c.args.more.now) _ (g.E.Device.seen c.put_call_line.new.errors) _ g.E.Device.is_in_memory c.in_ok-put_call_line.ensures c.put_call_lines.ensures
