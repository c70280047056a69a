-- The flags of an open round: who is waited for, and one answer more.
use Rattle.std.proofs.Common.{◌≡◌, ◌==◌, ◌∙◌, ℕ, zero, suc, ◌+◌, ◌<◌, ◌≤◌, Bool, true, false, cond, List, ◌∷◌, filter, length, refl, sym, ap, subst, arith, inl, inr}
use Rattle.std.proofs.lemmas.{Bool.Decides.nat_tests, List.get_or_past}
use Rattle.std.proofs.lemmas.Bool.{cases_Bool, cases_eq, cases_lt}
use Rattle.std.specs.List.{list_any, range_with_len}
use Rattle.plan_forest.proofs.Carrying.{or_left, or_parts, or_right}
use Rattle.tick_keeper.specs.code.Keeping.{flag_of, waited_for}

pub kept_test : (p : ℕ → Bool) (n a i : ℕ) → list_any (λ j. j == i) (filter p (range_with_len a n)) ≡ true → p i ≡ true
kept_test p zero a i e = absurd cc
kept_test p (suc n) a i e =
    let rest = filter p (range_with_len (a + 1) n) in
    elim (cases_Bool (p a)) [
      | inl passes ↦
          or_parts (a == i) (list_any (λ j. j == i) rest) (p i ≡ true) (sym (ap (λ b. list_any (λ j. j == i) (cond b (a ∷ rest) rest)) passes) ∙ e)
          (λ same. let k : a ≡ i = grind (arith, nat_tests) in subst (λ j. p j ≡ true) k passes)
          (λ later. kept_test p n (a + 1) i later)
      | inr fails ↦ kept_test p n (a + 1) i (sym (ap (λ b. list_any (λ j. j == i) (cond b (a ∷ rest) rest)) fails) ∙ e)
    ]

pub kept_there : (p : ℕ → Bool) (n a i : ℕ) → a ≤ i → i < a + n → p i ≡ true → list_any (λ j. j == i) (filter p (range_with_len a n)) ≡ true
kept_there p zero a i low high e = absurd (omega arith)
kept_there p (suc n) a i low high e =
    let rest = filter p (range_with_len (a + 1) n) in
    elim (cases_eq a i) [
      | inl same ↦ ap (λ b. list_any (λ j. j == i) (cond b (a ∷ rest) rest)) (ap p same ∙ e) ∙ or_left (a == i) (list_any (λ j. j == i) rest) (grind (arith, nat_tests))
      | inr other ↦
          let there = kept_there p n (a + 1) i (omega arith) (omega arith) e in
          elim (cases_Bool (p a)) [
            | inl passes ↦ ap (λ b. list_any (λ j. j == i) (cond b (a ∷ rest) rest)) passes ∙ or_right (a == i) (list_any (λ j. j == i) rest) there
            | inr fails ↦ ap (λ b. list_any (λ j. j == i) (cond b (a ∷ rest) rest)) fails ∙ there
          ]
    ]

-- whether an entry is among those that are waited for: its flag, and none past the flags
pub waits_flag : (flags : List Bool) (i : ℕ) → list_any (λ j. j == i) (waited_for flags) ≡ flag_of flags i
unfolding waited_for
waits_flag flags i = elim (cases_Bool (flag_of flags i)) [
  | inl yes' ↦ elim (cases_lt i (length flags)) [
    | inl within ↦ kept_there (flag_of flags) (length flags) 0 i (omega arith) (omega arith) yes' ∙ sym yes'
    | inr past ↦ absurd (let no' : flag_of flags i ≡ false = get_or_past flags i false past in cc)
  ]
  | inr no' ↦ not_kept (list_any (λ j. j == i) (filter (flag_of flags) (range_with_len 0 (length flags)))) (kept_test (flag_of flags) (length flags) 0 i) no'
] where
  not_kept : (b : Bool) → (b ≡ true → flag_of flags i ≡ true) → flag_of flags i ≡ false → b ≡ flag_of flags i
  not_kept true f h = absurd (let y = f refl in cc)
  not_kept false f h = sym h
