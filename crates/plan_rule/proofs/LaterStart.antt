-- Waiting changes nothing: until the first moment of a least and latest list, the list stays so, and its Asks stay.
use Rattle.std.proofs.Common.{◌≡◌, ℕ, suc, ◌+◌, ◌<◌, ◌≤◌, ◌&&◌, List, [], ◌∷◌, Option, filter, length, nat_lt, refl, sym, ap, ◌∙◌, subst, arith, inl, inr}
use Rattle.std.proofs.lemmas.{Bool.cases_Bool, Bool.cases_lt, Bool.Decides.nat_tests}
use Rattle.std.proofs.Math.Path.{fun_ext}
use Rattle.std.specs.List.{All, range_with_len}
use Rattle.plan_forest.specs.{declared.entry.Entry.Entry, Carried.carried, Forest.entry_at, Renewal.all_last, Renewal.renewed}
use Rattle.plan_forest.proofs.{Carrying.carried_at_least, Carrying.carried_is_of, Chains.over_self}
use Rattle.plan_rule.specs.{Asks.asking, Asks.asks, Asks.first_of, Asks.is_end_due, Asks.is_to_be_asked, Asks.with_asks, Ends.ends_after_wake_up, LawsOfRounds.LaterStartLaw, LawsOfRounds.SameAsksLaw, LawsOfRounds.SameRequestsLaw}
use Rattle.plan_rule.proofs.{Alive.alive_from_last, Joining.keeps_sooner, Joining.kept_before, Joining.plan_later, Joining.plan_sooner}

pub later_start : LaterStartLaw
later_start es margin s t ends ts h after_none best =
    let order = plan_later s t best.plan (subst (All (λ u. t ≤ u)) (sym best.at_these) after_none) best.in_order in
    let alive = kept_before es margin s t ends best.plan order best.kept in
    record {
      plan = best.plan;
      in_order = order;
      at_these = best.at_these;
      kept = λ i m from need. best.kept i m (omega arith) need;
      least = λ other o k. best.least other (plan_sooner s t other h o) (keeps_sooner es margin s t ends other o alive k);
      latest = λ other o k n within. best.latest other (plan_sooner s t other h o) (keeps_sooner es margin s t ends other o alive k) n within;
    }

-- a carried need past an end that comes after both starts is carried from either
carried_too : (es : List Entry) (s t i end : ℕ) → t < end → end < carried es s i → end < carried es t i
carried_too es s t i end h past =
    let f = carried_is_of es s i end past in
    let l : (entry_at es f.0).need ≤ carried es t i = carried_at_least es t i f.0 f.1 (omega (arith, f.3)) in
    omega (arith, f.3)

same_test : (es : List Entry) (s t i end : ℕ) → s < end → t < end → nat_lt end (carried es s i) ≡ nat_lt end (carried es t i)
same_test es s t i end h k =
    elim (cases_lt end (carried es s i)) [
      | inl past ↦ let there = carried_too es s t i end k past in grind (arith, nat_tests)
      | inr lasts ↦ elim (cases_lt end (carried es t i)) [
        | inl past ↦ absurd (let there = carried_too es t s i end h past in omega arith)
        | inr too ↦ grind (arith, nat_tests)
      ]
    ]

same_wanted : (es : List Entry) (margin s t u : ℕ) (ends : ℕ → ℕ) (next : Option ℕ) → s ≤ u → t ≤ u → (i : ℕ) → is_to_be_asked es margin s ends u next i ≡ is_to_be_asked es margin t ends u next i
unfolding is_to_be_asked
same_wanted es margin s t u ends next h k i =
    let ready = (entry_at es i).renewable in
    let rest = nat_lt (ends i) (renewed es margin ends u i) && is_end_due margin next (ends i) in
    elim (cases_Bool (all_last es ends (u + 1) i)) [
      | inl lasts ↦
          let end : u < ends i = alive_from_last es ends u i lasts i (over_self es i) in
          ap (λ b. ready && (all_last es ends (u + 1) i && (b && rest))) (same_test es s t i (ends i) (omega arith) (omega arith))
      | inr ended ↦
          ap (λ b. ready && (b && (nat_lt (ends i) (carried es s i) && rest))) ended ∙ sym (ap (λ b. ready && (b && (nat_lt (ends i) (carried es t i) && rest))) ended)
    ]

pub same_asks : SameAsksLaw
unfolding asks
same_asks es margin s t u ends next h k = ap (λ p. filter p (range_with_len 0 (length es))) (fun_ext (same_wanted es margin s t u ends next h k))

all_rest : (s t : ℕ) (ts : List ℕ) → All (λ u. s ≤ u) (t ∷ ts) → All (λ u. s ≤ u) ts
all_rest s t ts all k d h = all (suc k) d (omega arith)

pub same_requests : SameRequestsLaw
unfolding with_asks
same_requests es margin s t ends [] from_s from_t = refl
same_requests es margin s t ends (u ∷ us) from_s from_t =
    let same : asking es margin s ends u (first_of us) ≡ asking es margin t ends u (first_of us) =
    ap (λ is. record { at = u; asked = is }) (same_asks es margin s t u ends (first_of us) (from_s 0 0 (omega arith)) (from_t 0 0 (omega arith))) in
    ap (λ w. w ∷ with_asks es margin s (ends_after_wake_up es margin ends w) us) same
    ∙ ap (λ ws. asking es margin t ends u (first_of us) ∷ ws)
    (same_requests es margin s t (ends_after_wake_up es margin ends (asking es margin t ends u (first_of us))) us (all_rest s u us from_s) (all_rest t u us from_t))
