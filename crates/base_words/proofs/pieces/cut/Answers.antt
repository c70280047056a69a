-- A text with the byte is the piece before it and the pieces after; a text without it is one piece.
use Rattle.std.proofs.Common.{◌∷◌, ◌∙◌, ap, sym, take}
use Rattle.base_words.specs.Pieces.{pieces}
use Rattle.base_words.proofs.Cutting.{cut_at, not_cut}
use Rattle.base_words.proofs.pieces.cut.Goals as goal

pub returns-in_err-place : goal.returns-in_err-place
returns-in_err-place c = rw c.from_residual.ensures (not_cut c.args.byte c.args.text.now (sym c.in_err-place.ensures.value))

pub returns : goal.returns
returns c =
    cut_at c.args.byte c.args.text.now c.in_ok-place.place (sym c.in_ok-place.ensures.value)
    ∙ ap (λ rest. take c.in_ok-place.place c.args.text.now ∷ pieces c.args.byte rest) (sym c.behind.ensures)
