-- Bytes are UTF-8 exactly if they are read as a text.
use Rattle.std.proofs.Common.{◌≡◌, ◌∙◌, Bor, IsUtf8, List, MatchResult, Ok, Err, Result, is_ok, sym, ℕ}
use Rattle.std.proofs.lemmas.{Bool.false_from_ne_true, Str.IsUtf8-from_is_utf8, Str.is_utf8-from_IsUtf8}
use Rattle.std.specs.Str.{IsValidUpTo, is_utf8, valid_up_to}
use Rattle.vault_lint.proofs.fault_words.is_utf8.Goals as goal

as_read : {X E : Type 0} (P : X → Type 0) (Q : E → Type 0) (bytes : List ℕ) (read : Result X E) → MatchResult read (λ s. P s × IsUtf8 bytes) (λ e. ¬ (IsUtf8 bytes) × Q e) → is_ok read ≡ is_utf8 bytes
as_read P Q bytes (Ok s) h = sym (is_utf8-from_IsUtf8 bytes h.1)
as_read P Q bytes (Err e) h = sym (false_from_ne_true _ (λ t. h.0 (IsUtf8-from_is_utf8 bytes t)))

pub returns : goal.returns
returns c =
    let bytes = c.args.bytes.now in
    c.is_ok.ensures.value ∙ as_read (λ (s : Bor (List ℕ)). s.now ≡ bytes) (λ e. IsValidUpTo bytes (valid_up_to e)) bytes c.from_utf8.result c.from_utf8.ensures.cases
