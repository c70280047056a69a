-- Words, a place, a blank and a word are one piece, of which a write that fails leaves a front.
use Rattle.std.proofs.Common.{ℕ, List, ◌++◌, ◌∷◌, ap, sym}
use Rattle.program_report.specs.FaultLine.{place_word}
use Rattle.program_report.proofs.Pieces.{handed_on, piece_cut, piece_more, piece_named}
use Rattle.program_report.proofs.fault_line.put_word.Goals as goal

pub returns-in_err-put_place : goal.returns-in_err-put_place
returns-in_err-put_place g c =
    let r = c.from_residual-in_err-put_place.result in
    piece_more r _ c.args.words.now (place_word c.args.place ++ 32 ∷ c.args.word.now) _ (g.E.Device.seen c.put.new.errors) _ g.E.Device.is_in_memory c.in_ok-put.ensures
    (piece_cut r c.in_err-put_place.field-0.0 (place_word c.args.place) (32 ∷ c.args.word.now) _ (handed_on r c.in_err-put_place.field-0.0 c.from_residual-in_err-put_place.ensures) c.in_err-put_place.ensures)

pub returns : goal.returns
returns g c =
    let r = c.put_both.result in
    piece_more r _ c.args.words.now (place_word c.args.place ++ 32 ∷ c.args.word.now) _ (g.E.Device.seen c.put.new.errors) _ g.E.Device.is_in_memory c.in_ok-put.ensures
    (piece_more r _ (place_word c.args.place) (32 ∷ c.args.word.now) _ (g.E.Device.seen c.put_place.new.errors) _ g.E.Device.is_in_memory c.in_ok-put_place.ensures
    (piece_named r (32 ∷ c.as_bytes.result.now) (32 ∷ c.args.word.now) _ c.put_both.ensures (ap (λ (l : List ℕ). 32 ∷ l) (sym c.as_bytes.ensures.value))))
