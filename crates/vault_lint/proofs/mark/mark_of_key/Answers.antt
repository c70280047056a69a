-- A line with a `=` has two pieces or more.
use Rattle.std.proofs.Common.{◌≡◌, ◌≢◌, ◌∙◌, ℕ, List, [], ◌∷◌, ap, if◌then◌else◌, refl, sym}
use Rattle.base_words.specs.Pieces.{pieces}
use Rattle.base_words.proofs.Cutting.{has_piece}
use Rattle.vault_lint.specs.Marks.{is_key_word, mark_of_pieces, mark_of_word}
use Rattle.vault_lint.specs.declared.mark.Mark.TheVariants as marks
use Rattle.vault_lint.proofs.mark.mark_of_key.Goals as goal

by_first : (word : List ℕ) (more : List (List ℕ)) → more ≢ [] → mark_of_pieces (word ∷ more) ≡ (if is_key_word word then mark_of_word word else marks.Rest)
by_first word [] some = absurd (some refl)
by_first word (piece ∷ more) some = refl

pub returns-in-Some : goal.returns-in-Some
returns-in-Some c =
    let word = c.in-Some.word.now in
    let rest = c.in-Some.field-0-1.now in
    let is_key = sym c.is_key_word.ensures ∙ c.if-is_key_word.true in
    c.mark_of_word.ensures
    ∙ sym (ap (λ b. if b then mark_of_word word else marks.Rest) is_key)
    ∙ sym (by_first word (pieces 61 rest) (has_piece 61 rest))
    ∙ sym (ap mark_of_pieces c.in-Some.ensures)
