-- Members: numbers that differ, and which of them a list has. Two such lists with the same members are in another order. For those who
-- stand in line.
use Rattle.std.proofs.Common.{◌≡◌, ◌∙◌, ℕ, zero, suc, ◌+◌, ◌<◌, ◌≤◌, ◌==◌, ◌++◌, Bool, true, false, ◌&&◌, ◌||◌, if◌then◌else◌, List, [], ◌∷◌, IsPermutation, drop, filter, take, refl, sym, ap, subst, arith, inl, inr}
use Rattle.std.proofs.lemmas.{Bool.Decides.nat_tests, List.take-append-drop, List.Folds.list_any-append, Map.Keys.IsDistinct-IsPermutation}
use Rattle.std.proofs.lemmas.Bool.{cases_Bool, cond-false, cond-true, or_parts}
use Rattle.std.proofs.lemmas.List.Sorted.{IsPermutation-cons, IsPermutation-middle, IsPermutation-refl, IsPermutation-sym, IsPermutation-trans, list_any-IsPermutation}
use Rattle.std.specs.List.{AllByRecursion, IsDistinct, range_with_len}
use Rattle.watch_machine.specs.code.Line.{has}
use Rattle.watch_machine.proofs.Opening.{none_opens, some_opens}

-- numbers of which no two are the same
abbrev pub AreDistinct : List ℕ → Type 0
AreDistinct xs = IsDistinct (λ i j. i == j) xs

pub flips : (x y : ℕ) → (x == y) ≡ (y == x)
flips x y = grind (arith, nat_tests)

is_self : (x : ℕ) → (x == x) ≡ true
is_self x = grind (arith, nat_tests)

-- the first is not among the others
head_off : (x : ℕ) (xs : List ℕ) → AllByRecursion (λ y. (x == y) ≡ false) xs → has x xs ≡ false
head_off x [] all = refl
head_off x (y ∷ ys) all = ap (λ b. b || has x ys) (flips y x ∙ all.0) ∙ head_off x ys all.1

off_head : (x : ℕ) (xs : List ℕ) → has x xs ≡ false → AllByRecursion (λ y. (x == y) ≡ false) xs
off_head x [] off = tt
off_head x (y ∷ ys) off = let two = or_parts (y == x) (has x ys) off in (flips x y ∙ two.0, off_head x ys two.1)

-- a list by one of its members
split : (i : ℕ) (ys : List ℕ) → has i ys ≡ true → (before : List ℕ) × (after : List ℕ) × (ys ≡ before ++ i ∷ after)
split i [] is = absurd cc
split i (y ∷ ys) is = elim (cases_Bool (y == i)) [
  | inl here ↦ ([], ys, (let same : y ≡ i = grind (arith, nat_tests, here) in ap (λ z. z ∷ ys) same))
  | inr other ↦ (let s = split i ys (sym (ap (λ b. b || has i ys) other) ∙ is) in (y ∷ s.0, s.1, ap (λ zs. y ∷ zs) s.2))
]

-- two lists of the same members
same_less : (b c d : Bool) → b ≡ false → (b || c) ≡ (b || d) → c ≡ d
same_less true c d no' same = absurd cc
same_less false c d no' same = same

pub members_order : (xs ys : List ℕ) → AreDistinct xs → AreDistinct ys → ((i : ℕ) → has i xs ≡ has i ys) → IsPermutation xs ys
unfolding IsDistinct
members_order [] [] dx dy same = IsPermutation-refl []
members_order [] (y ∷ ys) dx dy same = absurd (let bad : false ≡ true = same y ∙ ap (λ b. b || has y ys) (is_self y) in cc)
members_order (x ∷ xs) ys dx dy same =
    let there : has x ys ≡ true = sym (same x) ∙ ap (λ b. b || has x xs) (is_self x) in
    let s = split x ys there in
    let zs = s.0 ++ s.1 in
    let mid : IsPermutation ys (x ∷ zs) = subst (λ ws. IsPermutation ws (x ∷ zs)) (sym s.2) (IsPermutation-middle s.0 x s.1) in
    let d : AreDistinct (x ∷ zs) = IsDistinct-IsPermutation (λ i j. i == j) flips ys (x ∷ zs) mid dy in
    let both : (j : ℕ) → has j xs ≡ has j zs = λ j. elim (cases_Bool (x == j)) [
      | inl here ↦ (let is : x ≡ j = grind (arith, nat_tests, here) in subst (λ k. has k xs ≡ has k zs) is (head_off x xs dx.0 ∙ sym (head_off x zs d.0)))
      | inr other ↦ same_less (x == j) (has j xs) (has j zs) other (same j ∙ list_any-IsPermutation (λ k. k == j) ys (x ∷ zs) mid)
    ] in
    IsPermutation-trans (x ∷ xs) (x ∷ zs) ys (IsPermutation-cons x xs zs (members_order xs zs dx.1 d.1 both)) (IsPermutation-sym ys (x ∷ zs) mid)

-- numbers in a row differ
row_off : (i a n : ℕ) → i < a → has i (range_with_len a n) ≡ false
row_off i a zero below = refl
row_off i a (suc n) below =
    let other : (a == i) ≡ false = grind (arith, nat_tests) in
    ap (λ b. b || has i (range_with_len (a + 1) n)) other ∙ row_off i (a + 1) n (omega (arith, below))

row_distinct : (a n : ℕ) → AreDistinct (range_with_len a n)
unfolding IsDistinct
row_distinct a zero = tt
row_distinct a (suc n) = (off_head a (range_with_len (a + 1) n) (row_off a (a + 1) n (omega arith)), row_distinct (a + 1) n)

no_test : (b c t : Bool) → (b ≡ true → t ≡ false) → c && t ≡ (b || c) && t
no_test true c t no' = let off = no' refl in and_off c t off ∙ sym off where
  and_off : (c t : Bool) → t ≡ false → c && t ≡ false
  and_off true t off = off
  and_off false t off = refl
no_test false c t no' = refl

yes_test : (b c t : Bool) → (b ≡ true → t ≡ true) → b || (c && t) ≡ (b || c) && t
yes_test true c t yes' = sym (yes' refl)
yes_test false c t yes' = refl

test_at : (t : ℕ → Bool) (x i : ℕ) (v : Bool) → t x ≡ v → (x == i) ≡ true → t i ≡ v
test_at t x i v is here = let same : x ≡ i = grind (arith, nat_tests, here) in subst (λ k. t k ≡ v) same is

pub has_filter : (t : ℕ → Bool) (i : ℕ) (xs : List ℕ) → has i (filter t xs) ≡ has i xs && t i
has_filter t i [] = refl
has_filter t i (x ∷ xs) = elim (cases_Bool (t x)) [
  | inl yes' ↦
      ap (has i) (cond-true (t x) (x ∷ filter t xs) (filter t xs) yes') ∙ ap (λ b. (x == i) || b) (has_filter t i xs)
      ∙ yes_test (x == i) (has i xs) (t i) (test_at t x i true yes')
  | inr no' ↦ ap (has i) (cond-false (t x) (x ∷ filter t xs) (filter t xs) no') ∙ has_filter t i xs ∙ no_test (x == i) (has i xs) (t i) (test_at t x i false no')
]

filter_distinct : (t : ℕ → Bool) (xs : List ℕ) → AreDistinct xs → AreDistinct (filter t xs)
unfolding IsDistinct
filter_distinct t [] d = tt
filter_distinct t (x ∷ xs) d = elim (cases_Bool (t x)) [
  | inl yes' ↦ subst AreDistinct (sym (cond-true (t x) (x ∷ filter t xs) (filter t xs) yes')) (
    off_head x (filter t xs) (has_filter t x xs ∙ ap (λ b. b && t x) (head_off x xs d.0)),
    filter_distinct t xs d.1,
  )
  | inr no' ↦ subst AreDistinct (sym (cond-false (t x) (x ∷ filter t xs) (filter t xs) no')) (filter_distinct t xs d.1)
]

-- so do those below a number that pass
pub passing_distinct : (t : ℕ → Bool) (n : ℕ) → AreDistinct (filter t (range_with_len 0 n))
passing_distinct t n = filter_distinct t (range_with_len 0 n) (row_distinct 0 n)

pub passing_within : (t : ℕ → Bool) (n i : ℕ) → i < n → has i (filter t (range_with_len 0 n)) ≡ t i
passing_within t n i within = has_filter t i (range_with_len 0 n) ∙ ap (λ b. b && t i) (some_opens (λ j. j == i) n i within (is_self i))

pub passing_past : (t : ℕ → Bool) (n i : ℕ) → n ≤ i → has i (filter t (range_with_len 0 n)) ≡ false
passing_past t n i past =
    has_filter t i (range_with_len 0 n) ∙ ap (λ b. b && t i) (none_opens (λ j. j == i) n (λ j below. (let other : (j == i) ≡ false = grind (arith, nat_tests, past, below) in other)))

-- what is left of them
pub drop_distinct : (k : ℕ) (xs : List ℕ) → AreDistinct xs → AreDistinct (drop k xs)
unfolding IsDistinct
drop_distinct zero xs d = d
drop_distinct (suc k) [] d = tt
drop_distinct (suc k) (x ∷ xs) d = drop_distinct k xs d.1

apart : (i : ℕ) (xs ys : List ℕ) → AreDistinct (xs ++ ys) → has i xs ≡ true → has i ys ≡ false
unfolding IsDistinct
apart i [] ys d is = absurd cc
apart i (x ∷ xs) ys d is = elim (cases_Bool (x == i)) [
  | inl here ↦
      let same : x ≡ i = grind (arith, nat_tests, here) in
      subst (λ k. has k ys ≡ false) same (or_parts (has x xs) (has x ys) (sym (list_any-append (λ j. j == x) xs ys) ∙ head_off x (xs ++ ys) d.0)).1
  | inr other ↦ apart i xs ys d.1 (sym (ap (λ b. b || has i xs) other) ∙ is)
]

-- it is among those that are left where it is none of the first
pub left_has : (k i : ℕ) (xs : List ℕ) → AreDistinct xs → (b : Bool) → b ≡ has i (take k xs) → has i (drop k xs) ≡ (if b then false else has i xs)
left_has k i xs d true is = apart i (take k xs) (drop k xs) (subst AreDistinct (sym (take-append-drop k xs)) d) (sym is)
left_has k i xs d false is =
    sym (ap (has i) (sym (take-append-drop k xs)) ∙ list_any-append (λ j. j == i) (take k xs) (drop k xs) ∙ ap (λ b. b || has i (drop k xs)) (sym is))
