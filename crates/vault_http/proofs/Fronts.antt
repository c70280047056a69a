-- The first bytes of an input that goes on.
use Rattle.std.proofs.Common.{◌≡◌, ℕ, ◌+◌, ◌-◌, inl, inr, List, ◌++◌, length, take, sym, ap, ◌∙◌, arith, append_assoc, append-nil}
use Rattle.std.proofs.lemmas.{Bool.cases_lt, List.take_all, List.take-append-le}
use Rattle.std.proofs.Math.Seq.{take-append-add}

-- the first bytes of more are the first bytes, and some that follow
pub take-grows : (max : ℕ) (xs more : List ℕ) → take max (xs ++ more) ≡ take max xs ++ take (max - length xs) more
take-grows max xs more =
    elim (cases_lt max (length xs)) [
      | inl short ↦
          let none : max - length xs ≡ 0 = omega arith in
          take-append-le max xs more (omega arith) ∙ sym (append-nil (take max xs)) ∙ ap (λ k. take max xs ++ take k more) (sym none)
      | inr long ↦
          let count : max ≡ length xs + (max - length xs) = omega arith in
          ap (λ k. take k (xs ++ more)) count ∙ take-append-add xs more (max - length xs) ∙ ap (λ t. t ++ take (max - length xs) more) (sym (take_all max xs long))
    ]

-- what follows the first bytes, in an input that goes on
pub take-onward : (max : ℕ) (xs more after : List ℕ) → take max (xs ++ more) ++ after ≡ take max xs ++ (take (max - length xs) more ++ after)
take-onward max xs more after = ap (λ t. t ++ after) (take-grows max xs more) ∙ append_assoc (take max xs) (take (max - length xs) more) after
