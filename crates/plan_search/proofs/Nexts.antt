-- The next moment: the first of the wake-ups of runs that comes after a moment; for `next_after`.
use Rattle.std.proofs.Common.{◌≡◌, ◌∙◌, ℕ, zero, suc, ◌+◌, ◌-◌, ◌*◌, ◌/◌, ◌<◌, ◌≤◌, ◌↔◌, ◌++◌, List, [], ◌∷◌, Bool, true, false, cond, Option, Some, None, is_some, nat_lt, refl, ap, arith}
use Rattle.std.proofs.Math.Nat.{div-mul-le_self, lt-div-mul-add, mul-le-mul_right}
use Rattle.std.proofs.lemmas.{Bool.cond-true, Bool.cond-false, Bool.Decides.nat_tests}
use Rattle.std.specs.Option.{IfSome, IsSome}
use Rattle.base_moment.specs.declared.moment.TheConstants.{LAST}
use Rattle.plan_rule.specs.{declared.force.Force.Force, Runs.wakes_of}
use Rattle.plan_search.specs.Planned.{next_after}

-- a wake-up that comes after the moment, and one that does not
comes_after : (at : ℕ) (x : Force) (xs : List Force) → at < x.at → next_after at (x ∷ xs) ≡ Some x.at
comes_after at x xs h = cond-true (nat_lt at x.at) (Some x.at) (next_after at xs) (let t : nat_lt at x.at ≡ true = grind (arith, nat_tests) in t)

passes : (at : ℕ) (x : Force) (xs : List Force) → x.at ≤ at → next_after at (x ∷ xs) ≡ next_after at xs
passes at x xs h = cond-false (nat_lt at x.at) (Some x.at) (next_after at xs) (let t : nat_lt at x.at ≡ false = grind (arith, nat_tests) in t)

pub next_first : (at a d c e n : ℕ) → 0 < c → at < a → next_after at (wakes_of a d c e n) ≡ Some a
unfolding wakes_of
next_first at a d zero e n some h = absurd (omega arith)
next_first at a d (suc c) e n some h = comes_after at (record { at = a; entry = e; needed = n }) (wakes_of (a + d) d c e n) h

pub next_behind : (k at a d c e n : ℕ) → a + k * d ≤ at → at < a + suc k * d → suc k < c → next_after at (wakes_of a d c e n) ≡ Some (a + suc k * d)
unfolding wakes_of
next_behind k at a d zero e n low high within = absurd (omega arith)
next_behind zero at a d (suc c) e n low high within =
    passes at (record { at = a; entry = e; needed = n }) (wakes_of (a + d) d c e n) (omega arith)
    ∙ next_first at (a + d) d c e n (omega arith) (omega arith) ∙ ap (λ m. Some m) (let s : a + d ≡ a + suc zero * d = omega arith in s)
next_behind (suc k) at a d (suc c) e n low high within =
    passes at (record { at = a; entry = e; needed = n }) (wakes_of (a + d) d c e n) (omega arith)
    ∙ next_behind k at (a + d) d c e n (omega arith) (omega arith) (omega arith) ∙ ap (λ m. Some m) (let s : (a + d) + suc k * d ≡ a + suc (suc k) * d = omega arith in s)

none_behind : (k at a d e n : ℕ) → a + k * d ≤ at → next_after at (wakes_of a d (suc k) e n) ≡ None
unfolding wakes_of
none_behind zero at a d e n low = passes at (record { at = a; entry = e; needed = n }) [] (omega arith)
none_behind (suc k) at a d e n low =
    passes at (record { at = a; entry = e; needed = n }) (wakes_of (a + d) d (suc k) e n) (omega arith) ∙ none_behind k at (a + d) d e n (omega arith)

pub next_none : (at a d c e n : ℕ) → 0 < c → a + (c - 1) * d ≤ at → next_after at (wakes_of a d c e n) ≡ None
next_none at a d c e n some low =
    ap (λ k. next_after at (wakes_of a d k e n)) (let s : c ≡ suc (c - 1) = omega arith in s) ∙ none_behind (c - 1) at a d e n low

-- what comes in a list that is followed by another
in_front_by : (b : Bool) (m k : ℕ) (o q : Option ℕ) → (o ≡ Some m → q ≡ Some m) → cond b (Some k) o ≡ Some m → cond b (Some k) q ≡ Some m
in_front_by true m k o q rest h = h
in_front_by false m k o q rest h = rest h

pub next_in_front : (at m : ℕ) (xs ys : List Force) → next_after at xs ≡ Some m → next_after at (xs ++ ys) ≡ Some m
next_in_front at m [] ys is = absurd cc
next_in_front at m (x ∷ xs) ys is = in_front_by (nat_lt at x.at) m x.at (next_after at xs) (next_after at (xs ++ ys)) (next_in_front at m xs ys) is

later_by : (b : Bool) (k : ℕ) (o q r : Option ℕ) → (o ≡ None → q ≡ r) → cond b (Some k) o ≡ None → cond b (Some k) q ≡ r
later_by true k o q r rest h = absurd cc
later_by false k o q r rest h = rest h

pub next_later : (at : ℕ) (xs ys : List Force) → next_after at xs ≡ None → next_after at (xs ++ ys) ≡ next_after at ys
next_later at [] ys is = refl
next_later at (x ∷ xs) ys is = later_by (nat_lt at x.at) x.at (next_after at xs) (next_after at (xs ++ ys)) (next_after at ys) (next_later at xs ys) is

-- a moment that is made of a number
pub made : (n : ℕ) (o : Option ℕ) → (IsSome o ↔ (n ≤ LAST)) → IfSome o (λ m. m ≡ n) → n ≤ LAST → o ≡ Some n
made n None within value h = absurd (let some = within.1 h in cc)
made n (Some m) within value h = ap (λ k. Some k) value

-- how many of the wake-ups at a, a + d and so on do not come after `at`
pub passed : (at a d k : ℕ) → a ≤ at → 0 < d → k ≡ (at - a) / d → (a + k * d ≤ at) × (at < a + suc k * d)
passed at a d k h some is =
    let q = (at - a) / d in
    let low : q * d ≤ at - a = div-mul-le_self (at - a) d in
    let high : at - a < q * d + d = lt-div-mul-add some in
    let same : k * d ≡ q * d = ap (λ n. n * d) is in
    (omega arith, omega arith)

-- and that no more of a run come after it
pub all_passed : (at a d k c : ℕ) → a + k * d ≤ at → c ≤ suc k → a + (c - 1) * d ≤ at
all_passed at a d k c low few = let l : (c - 1) * d ≤ k * d = mul-le-mul_right d (omega arith) in omega arith

pub within_run : (a d k c : ℕ) → k < c → a + (c - 1) * d ≤ LAST → a + k * d ≤ LAST
within_run a d k c h last = let l : k * d ≤ (c - 1) * d = mul-le-mul_right d (omega arith) in omega arith

pub found : (o : Option ℕ) → is_some o ≡ true → (m : ℕ) × (o ≡ Some m)
found None some = absurd cc
found (Some m) some = (m, refl)

pub none_found : (o : Option ℕ) → is_some o ≡ false → o ≡ None
none_found None none = refl
none_found (Some m) none = absurd cc
