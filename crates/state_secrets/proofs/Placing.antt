-- Placing: the place of a mark is that of one. For `set_mark`.
use Rattle.std.proofs.Common.{◌≡◌, ℕ, ◌<◌, Bool, true, false, cond, List, Some, None, length, ltb-true, refl, subst}
use Rattle.std.specs.List.{position, position_or_len}
use Rattle.state_secrets.specs.{Looking.is_mark_of, declared.looking.FileMark.FileMark}

chosen : (b : Bool) (m n : ℕ) → cond b (Some m) None ≡ Some n → (b ≡ true) × (m ≡ n)
chosen true m n e = (refl, cc)
chosen false m n e = cc

pub mark_within : (name file : List ℕ) (marks : List FileMark) (i : ℕ) → position (is_mark_of name file) marks ≡ Some i → i < length marks
mark_within name file marks i e =
    let h = chosen _ (position_or_len (is_mark_of name file) marks) i e in
    subst (λ k. k < length marks) h.1 (ltb-true _ _ h.0)
