-- Fronts: what entries allow the margin of an agent behind another, and of which margin it is. For `margin_behind` and `margin_in_front`.
use Rattle.std.proofs.Common.{◌≡◌, ◌∙◌, ℕ, zero, suc, ◌-◌, ◌/◌, ◌<◌, ◌≤◌, ◌==◌, true, false, List, ap, arith, eqb-true, inl, inr}
use Rattle.std.proofs.lemmas.{Bool.cases_Bool, Bool.cond-false, Bool.cond-true, Bool.Decides.nat_tests}
use Rattle.plan_forest.specs.{declared.entry.Entry.Entry, Margins.IsMargin}
use Rattle.plan_forest.proofs.Margins.{less_allowed}
use Rattle.plan_spread.specs.Behind.{in_front_up_to, margin_by}

-- each margin that is no greater, and more than half
pub behind_allowed : (es : List Entry) (margin less : ℕ) → (0 < margin → margin / 2 < less) → less ≤ margin → IsMargin es margin → IsMargin es less
behind_allowed es margin less least small allowed = let above = least allowed.above in less_allowed es margin less (omega (arith, above)) small allowed

it_is : (m n : ℕ) → m ≡ n → (m == n) ≡ true
it_is m n same = grind (arith, nat_tests)

it_is_not : (m n : ℕ) → (m ≡ n → ⊥) → (m == n) ≡ false
it_is_not m n other = elim (cases_Bool (m == n)) as (λ _. (m == n) ≡ false) [
  | inl yes' ↦ absurd (other (eqb-true m n yes'))
  | inr no' ↦ no'
]

-- a margin of which it is, and one of which it is not
pub front_here : (behind : ℕ) (number : ℕ) (m : ℕ) → 0 < m → margin_by m number ≡ behind → in_front_up_to behind number m ≡ m
front_here behind number zero some is = absurd (omega (arith, some))
front_here behind number (suc m) some is = cond-true (margin_by (suc m) number == behind) (suc m) (in_front_up_to behind number m) (it_is (margin_by (suc m) number) behind is)

pub front_less : (behind : ℕ) (number : ℕ) (m : ℕ) → 0 < m → (margin_by m number ≡ behind → ⊥) → in_front_up_to behind number m ≡ in_front_up_to behind number (m - 1)
front_less behind number zero some other = absurd (omega (arith, some))
front_less behind number (suc m) some other =
    let less : m ≡ suc m - 1 = omega arith in
    cond-false (margin_by (suc m) number == behind) (suc m) (in_front_up_to behind number m) (it_is_not (margin_by (suc m) number) behind other) ∙ ap (in_front_up_to behind number) less
