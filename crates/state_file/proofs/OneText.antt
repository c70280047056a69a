-- Rows have one text in each form.
use Rattle.std.proofs.Common.{◌≡◌, ℕ, false, List, [], ◌∷◌, ◌++◌, codes, sym, ap, ◌∙◌, subst}
use Rattle.base_moment.proofs.Moments.{one_date_text}
use Rattle.toml.specs.{Data.string, Text.IsValueText}
use Rattle.vault_inventory.specs.{Keys.key_text, declared.key.Key.Key}
use Rattle.state_file.specs.FileText.{Said, quoted, number, flag, Line, header, field, dated, Adds, AddsField, AddsLine, IsFileText, data_of, file_lines}
use Rattle.state_file.specs.Laws.{OneFileText}

one_value : (said : Said) (a b : List ℕ) → IsValueText false (data_of said) a → IsValueText false (data_of said) b → a ≡ b
one_value (quoted t) a b h k = h ∙ sym k
one_value (number n) a b h k = h.0 ∙ sym k.0
one_value (flag f) a b h k = h ∙ sym k

one_field : (key : Key) (said : Said) (old a b : List ℕ) → AddsField key (data_of said) old a → AddsField key (data_of said) old b → a ≡ b
unfolding AddsField
one_field key said old a b (v, h, is) (w, k, js) =
    is ∙ ap (λ (t : List ℕ). old ++ (key_text key ++ (codes " = " ++ (t ++ codes "\n")))) (one_value said v w h k) ∙ sym js

one_line : (line : Line) (old a b : List ℕ) → AddsLine line old a → AddsLine line old b → a ≡ b
one_line (header key) old a b h k = h ∙ sym k
one_line (field key said) old a b h k = one_field key said old a b h k
one_line (dated key m) old a b (date, is, h) (other, js, k) =
    one_field key (quoted date) old a b h (subst (λ t. AddsField key (string t) old b) (one_date_text other date m js is) k)

one_after : (lines : List Line) (old a b : List ℕ) → Adds lines old a → Adds lines old b → a ≡ b
unfolding Adds
one_after [] old a b h k = h ∙ sym k
one_after (line ∷ lines) old a b (t, h, hs) (u, k, ks) =
    one_after lines t a b hs (subst (λ r. Adds lines r b) (one_line line old u t k h) ks)

pub one_file_text : OneFileText
unfolding IsFileText
one_file_text form margin most rows t other h k = one_after (file_lines form margin most rows) [] t other h k
