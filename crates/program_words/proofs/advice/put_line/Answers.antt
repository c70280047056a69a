-- The pieces that are written make up the line, and a write that fails leaves a front of it.
use Rattle.std.proofs.Common.{[], ◌++◌, ◌∷◌}
use Rattle.program_words.specs.Advice.{advice_line}
use Rattle.program_report.specs.FaultLine.{before_colon}
use Rattle.program_report.proofs.Pieces.{handed_on, piece_cut, piece_more}
use Rattle.program_words.proofs.advice.put_line.Goals as goal

pub returns-in_err-put_before_colon-2 : goal.returns-in_err-put_before_colon-2
unfolding advice_line
returns-in_err-put_before_colon-2 g c =
    let r = c.from_residual-in_err-put_before_colon-2.result in
    piece_more r _ (before_colon c.args.program.now) (before_colon c.args.subject.now ++ (c.args.words.now ++ (10 ∷ []))) _ (g.E.Device.seen c.put_before_colon.new.errors) _ g.E.Device.is_in_memory c.in_ok-put_before_colon.ensures
    (piece_cut r c.in_err-put_before_colon-2.field-0.0 (before_colon c.args.subject.now) (c.args.words.now ++ (10 ∷ [])) _ (handed_on r c.in_err-put_before_colon-2.field-0.0 c.from_residual-in_err-put_before_colon-2.ensures) c.in_err-put_before_colon-2.ensures)

pub returns : goal.returns
unfolding advice_line
returns g c =
    let r = c.put_both.result in
    piece_more r _ (before_colon c.args.program.now) (before_colon c.args.subject.now ++ (c.args.words.now ++ (10 ∷ []))) _ (g.E.Device.seen c.put_before_colon.new.errors) _ g.E.Device.is_in_memory c.in_ok-put_before_colon.ensures
    (piece_more r _ (before_colon c.args.subject.now) (c.args.words.now ++ (10 ∷ [])) _ (g.E.Device.seen c.put_before_colon-2.new.errors) _ g.E.Device.is_in_memory c.in_ok-put_before_colon-2.ensures c.put_both.ensures)
