-- Being alive is lasting: over the chain of an entry, "each end is after m" and "each end is m + 1 or later" are one.
use Rattle.std.proofs.Common.{◌≡◌, ◌==◌, ℕ, ◌+◌, ◌<◌, ◌&&◌, ◌||◌, Bool, true, List, [], ◌∷◌, nat_le, refl, sym, ap, ◌∙◌, subst, arith, inl, inr}
use Rattle.std.proofs.lemmas.{Bool.cases_Bool, Bool.Decides.nat_tests}
use Rattle.std.specs.List.{list_all, list_any}
use Rattle.plan_forest.specs.{declared.entry.Entry.Entry, Over.chain, Over.is_over, Renewal.all_last}
use Rattle.plan_forest.proofs.Carrying.{and_left, and_right, or_right}
use Rattle.plan_rule.specs.Keeps.{Alive}

-- what all elements pass, an element passes
each_of_all : (p : ℕ → Bool) (xs : List ℕ) (a : ℕ) → list_all p xs ≡ true → list_any (λ b. b == a) xs ≡ true → p a ≡ true
each_of_all p [] a all any = absurd cc
each_of_all p (x ∷ xs) a all any =
    elim (cases_Bool (x == a)) [
      | inl here ↦ let same : x ≡ a = grind (arith, nat_tests) in subst (λ n. p n ≡ true) same (and_left (p x) (list_all p xs) all)
      | inr other ↦ each_of_all p xs a (and_right (p x) (list_all p xs) all) (sym (ap (λ b. b || list_any (λ c. c == a) xs) other) ∙ any)
    ]

all_of_each : (p : ℕ → Bool) (xs : List ℕ) → ((a : ℕ) → list_any (λ b. b == a) xs ≡ true → p a ≡ true) → list_all p xs ≡ true
all_of_each p [] each = refl
all_of_each p (x ∷ xs) each =
    let here : (x == x) ≡ true = grind (arith, nat_tests) in
    let head : p x ≡ true = each x (ap (λ b. b || list_any (λ c. c == x) xs) here) in
    ap (λ b. b && list_all p xs) head ∙ all_of_each p xs (λ a any. each a (or_right (x == a) (list_any (λ c. c == a) xs) any))

pub alive_from_last : (es : List Entry) (ends : ℕ → ℕ) (m i : ℕ) → all_last es ends (m + 1) i ≡ true → Alive es ends m i
unfolding all_last is_over
alive_from_last es ends m i all a over =
    let last : nat_le (m + 1) (ends a) ≡ true = each_of_all (λ b. nat_le (m + 1) (ends b)) (chain es i) a all over in
    grind (arith, nat_tests)

pub last_from_alive : (es : List Entry) (ends : ℕ → ℕ) (m i : ℕ) → Alive es ends m i → all_last es ends (m + 1) i ≡ true
unfolding all_last is_over
last_from_alive es ends m i alive =
    all_of_each (λ b. nat_le (m + 1) (ends b)) (chain es i) (λ a over. let l : m < ends a = alive a over in grind (arith, nat_tests))
