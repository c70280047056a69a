-- Leasts: the least of a number and of others. For lulls.
use Rattle.std.proofs.Common.{◌≡◌, ◌∙◌, ℕ, zero, suc, ◌+◌, ◌<◌, ◌≤◌, List, [], ◌∷◌, map, min, refl, ap, arith, inl, inr}
use Rattle.std.proofs.lemmas.Bool.{cases_lt}
use Rattle.std.specs.List.{range_with_len}
use Rattle.watch_machine.specs.Wanted.{least}

-- it is no more than the number, nor than each of the others
pub least_start : (n : ℕ) (xs : List ℕ) → least n xs ≤ n
least_start n [] = omega arith
least_start n (x ∷ xs) = let rest = least_start (min n x) xs in omega (arith, rest)

pub least_each : (f : ℕ → ℕ) (m a n i : ℕ) → a ≤ i → i < a + n → least m (map f (range_with_len a n)) ≤ f i
least_each f m a zero i from below = absurd (omega (arith, from, below))
least_each f m a (suc n) i from below =
    elim (cases_lt a i) [
      | inl later ↦ least_each f (min m (f a)) (a + 1) n i (omega (arith, later)) (omega (arith, below))
      | inr here ↦
          let is : a ≡ i = omega (arith, from, here) in
          let start = least_start (min m (f a)) (map f (range_with_len (a + 1) n)) in
          let same = ap f is in
          omega (arith, start, same)
    ]

-- of two numbers, the other may be taken last
pub least_min : (m n : ℕ) (xs : List ℕ) → least (min m n) xs ≡ min m (least n xs)
least_min m n [] = refl
least_min m n (x ∷ xs) = let e : min (min m n) x ≡ min m (min n x) = omega arith in ap (λ k. least k xs) e ∙ least_min m (min n x) xs

-- numbers that are the same up to a limit have the same least with it
pub least_capped :
    (f h : ℕ → ℕ) (limit m a n : ℕ) → m ≤ limit → ((i : ℕ) → a ≤ i → i < a + n → min limit (f i) ≡ min limit (h i)) →
    least m (map f (range_with_len a n)) ≡ least m (map h (range_with_len a n))
least_capped f h limit m a zero low same = refl
least_capped f h limit m a (suc n) low same =
    let here = same a (omega arith) (omega arith) in
    let e : min m (f a) ≡ min m (h a) = omega (arith, low, here) in
    ap (λ k. least k (map f (range_with_len (a + 1) n))) e
    ∙ least_capped f h limit (min m (h a)) (a + 1) n (omega (arith, low)) (λ i from below. same i (omega (arith, from)) (omega (arith, below)))
