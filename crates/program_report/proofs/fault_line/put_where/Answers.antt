-- Words and the place of an entry are written as one piece.
use Rattle.program_report.specs.FaultLine.{place_word}
use Rattle.program_report.proofs.Pieces.{piece_more}
use Rattle.program_report.proofs.fault_line.put_where.Goals as goal

pub returns : goal.returns
returns g c =
    piece_more c.put_place.result _ c.args.words.now (place_word c.args.place) _ (g.E.Device.seen c.put.new.errors) _ g.E.Device.is_in_memory c.in_ok-put.ensures c.put_place.ensures
