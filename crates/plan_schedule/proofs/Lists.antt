-- Lists of wake-ups: where two runs begin one list, and one of them ends for good, the other is no longer.
use Rattle.std.proofs.Common.{◌≡◌, ℕ, zero, suc, ◌+◌, ◌<◌, ◌≤◌, ◌++◌, List, [], ◌∷◌, sym, ap, ◌∙◌, arith}
use Rattle.plan_rule.specs.{declared.force.Force.Force, Runs.wakes_of}

-- the list does not begin with a wake-up of this entry
abbrev pub IsEnded : ℕ → List Force → Type 0
IsEnded entry [] = Unit {0}
IsEnded entry (x ∷ xs) = x.entry ≡ entry → ⊥

no_longer_of : (a d n b g m e c k : ℕ) (ys zs : List Force) → wakes_of a d c e n ++ ys ≡ wakes_of b g k e m ++ zs → IsEnded e ys → k ≤ c
unfolding wakes_of
no_longer_of a d n b g m e c zero ys zs same ends = omega arith
no_longer_of a d n b g m e zero (suc k) ys zs same ends = absurd (ended ys same ends) where
  ended : (l : List Force) → l ≡ wakes_of b g (suc k) e m ++ zs → IsEnded e l → ⊥
  ended [] is h = cc
  ended (x ∷ xs) is h = h (let first : x ≡ record { at = b; entry = e; needed = m } = cc in ap (λ (y : Force). y.entry) first)
no_longer_of a d n b g m e (suc c) (suc k) ys zs same ends =
    let tails : wakes_of (a + d) d c e n ++ ys ≡ wakes_of (b + g) g k e m ++ zs = cc in
    let l = no_longer_of (a + d) d n (b + g) g m e c k ys zs tails ends in
    omega arith

first_entry : (a d n b g m e f c k : ℕ) (ys zs : List Force) → wakes_of a d (suc c) e n ++ ys ≡ wakes_of b g (suc k) f m ++ zs → e ≡ f
unfolding wakes_of
first_entry a d n b g m e f c k ys zs same =
    let x : Force = record { at = a; entry = e; needed = n } in
    let y : Force = record { at = b; entry = f; needed = m } in
    let first : x ≡ y = cc in
    ap (λ (z : Force). z.entry) first

pub no_longer : (a d n b g m e f c k : ℕ) (ys zs : List Force) → 0 < c → wakes_of a d c e n ++ ys ≡ wakes_of b g k f m ++ zs → IsEnded e ys → k ≤ c
no_longer a d n b g m e f c zero ys zs some same ends = omega arith
no_longer a d n b g m e f zero (suc k) ys zs some same ends = absurd (omega arith)
no_longer a d n b g m e f (suc c) (suc k) ys zs some same ends =
    let entry : e ≡ f = first_entry a d n b g m e f c k ys zs same in
    no_longer_of a d n b g m e (suc c) (suc k) ys zs (same ∙ ap (λ i. wakes_of b g (suc k) i m ++ zs) (sym entry)) ends
