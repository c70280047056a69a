-- Steps: a step that is told counts where it is past the margin, so what is taken always is. For `take_terms`.
use Rattle.std.proofs.Common.{◌<◌, ℕ, Option, Some, None, arith, inl, inr, nat_lt, subst, sym}
use Rattle.std.proofs.lemmas.Bool.Decides.{nat_tests}
use Rattle.std.proofs.lemmas.Bool.{cases_Bool, cond-true, cond-false}
use Rattle.watch_machine.specs.Looked.{step_told}

pub past_margin : (margin step : ℕ) (told : Option ℕ) → margin < step → margin < step_told margin step told
past_margin margin step None past = past
past_margin margin step (Some told) past =
    elim (cases_Bool (nat_lt margin told)) [
      | inl yes' ↦ subst (λ n. margin < n) (sym (cond-true (nat_lt margin told) told step yes')) (grind (arith, nat_tests))
      | inr no' ↦ subst (λ n. margin < n) (sym (cond-false (nat_lt margin told) told step no')) past
    ]
