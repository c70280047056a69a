-- Requests: the requests that are out, by whose they are and by when they went out, and how many rounds of the lanes hold them. For the
-- laws of recovery, starts and outages.
use Rattle.std.proofs.Common.{◌≡◌, ◌∙◌, ℕ, zero, suc, ◌+◌, ◌*◌, ◌<◌, ◌≤◌, Bool, true, false, ◌&&◌, ◌||◌, ◌==◌, List, [], ◌∷◌, All, length, nat_le, refl, sym, ap, arith, inl, inr}
use Rattle.std.proofs.Math.Nat.{mul-suc, mul-zero}
use Rattle.std.proofs.lemmas.Bool.Decides.{nat_tests}
use Rattle.std.proofs.lemmas.Bool.{cases_Bool, cond-true, or_parts}
use Rattle.std.proofs.lemmas.List.Elements.{All-head, All-nil, All-cons, All-tail}
use Rattle.std.specs.List.{list_any}
use Rattle.watch_machine.specs.{declared.lanes.Out.Out, State.WatchState}
use Rattle.watch_laws.specs.Outage.{Outage, how_many, is_request_whole, outage_settled_by}
use Rattle.watch_laws.proofs.{Counting.none, Lanes.is_anew}

-- what is true whatever request is out that passes, where one is
pub any_gives : (P : Type 0) (test : Out → Bool) (out : List Out) → list_any test out ≡ true → All (λ (q : Out). test q ≡ true → P) out → P
any_gives P test [] any all = absurd cc
any_gives P test (q ∷ out) any all =
    elim (cases_Bool (test q)) [
      | inl here ↦ All-head (λ (r : Out). test r ≡ true → P) q out all here
      | inr other ↦ any_gives P test out (sym (ap (λ b. b || list_any test out) other) ∙ any) (All-tail (λ (r : Out). test r ≡ true → P) q out all)
    ]

pub none_passes : (test : Out → Bool) (out : List Out) → list_any test out ≡ false → All (λ (q : Out). test q ≡ false) out
none_passes test [] h = All-nil (λ (q : Out). test q ≡ false)
none_passes test (q ∷ out) h =
    let both = or_parts (test q) (list_any test out) h in
    All-cons (λ (r : Out). test r ≡ false) q out both.0 (none_passes test out both.1)

-- there is one where all lanes are taken
pub some_lane : (out : List Out) → 1 ≤ length out → list_any (λ (q : Out). true) out ≡ true
some_lane [] h = absurd (omega (arith, h))
some_lane (q ∷ out) h = refl

none_late : (o : Outage) (from at j : ℕ) (out : List Out) → at < from → All (λ (q : Out). q.since ≤ at) out → list_any (λ (q : Out). q.entry == j && (is_request_whole o q.since && nat_le from q.since)) out ≡ false
none_late o from at j [] late all = refl
none_late o from at j (q ∷ out) late all =
    let le = All-head (λ (r : Out). r.since ≤ at) q out all in
    let test : nat_le from q.since ≡ false = grind (arith, nat_tests) in
    ap (λ b. (q.entry == j && (is_request_whole o q.since && b)) || list_any (λ (r : Out). r.entry == j && (is_request_whole o r.since && nat_le from r.since)) out) test
    ∙ both_no (q.entry == j) (is_request_whole o q.since) (list_any (λ (r : Out). r.entry == j && (is_request_whole o r.since && nat_le from r.since)) out)
    ∙ none_late o from at j out late (All-tail (λ (r : Out). r.since ≤ at) q out all) where
      both_no : (a b c : Bool) → (a && (b && false)) || c ≡ c
      both_no true true c = refl
      both_no true false c = refl
      both_no false b c = refl

-- no request that is out went out later than now
pub anew_none : (o : Outage) (from n : ℕ) (s : WatchState) → All (λ (q : Out). q.since ≤ s.clocks.at) s.out → s.clocks.at < from → how_many n (is_anew o from s) ≡ 0
anew_none o from n s now late = none n (is_anew o from s) (λ j. none_late o from s.clocks.at j s.out late now)

pub later_than : (from since : ℕ) → nat_le since from ≡ false → suc from ≤ since
later_than from since h = grind (arith, nat_tests)

-- all lanes hold one round
pub take_one : (w r k less : ℕ) → 0 < w → w + less ≤ k → k ≤ w * r → (q : ℕ) × ((r ≡ suc q) × (less ≤ w * q))
take_one w zero k less wide fuller fits = absurd (let z = mul-zero w in omega (arith, z, wide, fuller, fits))
take_one w (suc q) k less wide fuller fits = (q, (refl, (let m = mul-suc w q in omega (arith, m, fuller, fits))))

pub one_left : (w r k : ℕ) → k ≤ w * r → 1 ≤ k → (q : ℕ) × (r ≡ suc q)
one_left w zero k fits some = absurd (let z = mul-zero w in omega (arith, z, fits, some))
one_left w (suc q) k fits some = (q, refl)

-- so long one round more lasts
pub round_of_lanes : (turn r q : ℕ) → r ≡ suc q → turn * r ≡ turn + turn * q
round_of_lanes turn r q is = let all = ap (λ x. turn * x) is in let m = mul-suc turn q in omega (arith, all, m)

-- requests by when they went out
pub whole_after : (o : Outage) (at : ℕ) → o.until ≤ at → is_request_whole o at ≡ true
unfolding is_request_whole
whole_after o at h = let e : nat_le o.until at ≡ true = grind (arith, nat_tests) in ap (λ b. nat_le (at + o.quick) o.from || b) e ∙ or_true (nat_le (at + o.quick) o.from) where
  or_true : (b : Bool) → b || true ≡ true
  or_true true = refl
  or_true false = refl

pub quick_if : (o : Outage) (at : ℕ) → is_request_whole o at ≡ true → outage_settled_by o at ≡ at + o.quick
unfolding outage_settled_by
quick_if o at whole = ap (λ n. at + n) (cond-true (is_request_whole o at) o.quick o.slow whole)
