-- A text with a second byte of this value has more than two pieces.
use Rattle.std.proofs.Common.{◌∷◌, ◌∙◌, ap, sym}
use Rattle.base_words.specs.Pieces.{two}
use Rattle.base_words.proofs.Cutting.{two_of_more}
use Rattle.base_words.proofs.words.two_pieces.Goals as goal

pub returns-in-Some : goal.returns-in-Some
returns-in-Some c = sym (ap two (c.in_ok-first.ensures ∙ ap (λ ws. c.in_ok-first.first.now ∷ ws) c.in-Some.ensures) ∙ two_of_more _ _ _ _)
