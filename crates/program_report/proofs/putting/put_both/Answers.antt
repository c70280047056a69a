-- Two pieces that are written one after the other are written as one.
use Rattle.program_report.proofs.Pieces.{piece_more}
use Rattle.program_report.proofs.putting.put_both.Goals as goal

pub returns : goal.returns
returns g c =
    piece_more c.put-2.result _ c.args.first.now c.args.second.now _ (g.E.Device.seen c.put.new.errors) _ g.E.Device.is_in_memory c.in_ok-put.ensures c.put-2.ensures
