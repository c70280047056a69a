-- Forces that stay forces, while a plan is kept: for the law of them.
use Rattle.std.proofs.Common.{◌≡◌, ℕ, ◌-◌, ◌<◌, ◌≤◌, Bool, true, false, cond, List, [], ◌∷◌, Option, Some, None, max, refl, sym, ap, ◌∙◌, subst, arith, inl, inr}
use Rattle.std.proofs.lemmas.List.Elements.{All-head, All-tail}
use Rattle.std.proofs.lemmas.Bool.{cases_Bool, cases_lt, cond-true}
use Rattle.std.specs.List.{All}
use Rattle.plan_forest.specs.{declared.entry.Entry.Entry, Over.Over, Push.IsForest, Renewal.renewal}
use Rattle.plan_forest.specs.Forest.{Forest, end_of, entry_at}
use Rattle.plan_rule.specs.{Ends.ends_after_wake_up, Forced.bound, Forced.latest_end, Runs.moments_of, declared.force.Force.Force}
use Rattle.plan_rule.specs.Asks.{asking, first_of, is_to_be_asked}
use Rattle.plan_rule.proofs.{Asking.wanted_renewable, Joining.kept_before, Joining.plan_later, Keeping.end_below_bound, Keeping.renewal_later, Covering.after_unwanted, Covering.after_wanted}
use Rattle.tick_keeper.specs.{InForce.AllForcedAs, LawsOfPlans.IsAnsweredByRule, LawsOfPlans.StillForcedLaw, Replan.IsPlanOf}
use Rattle.tick_keeper.proofs.Alike.{over_alike, renewal_alike}
use Rattle.tick_keeper.proofs.Standing.{after_answers, answered_alike, best_first}

-- a need that a bound falls short of comes after the plan's first moment: until then the ends last
need_later :
    (g : Forest) (s t : ℕ) (ts : List ℕ) → IsPlanOf g s ts → All (λ u. t ≤ u) ts → (prev : Option ℕ) (entry needed : ℕ) → Over g.entries entry needed → s < (entry_at g.entries needed).need →
    bound g.entries (end_of g.entries) prev entry < (entry_at g.entries needed).need → t < (entry_at g.entries needed).need
need_later g s t ts best after_none prev entry needed over later short =
    let es = g.entries in
    let ends = end_of es in
    let need = (entry_at es needed).need in
    elim (cases_lt t need) [
      | inl after ↦ after
      | inr before ↦ absurd (
          let order = plan_later s t best.plan (subst (All (λ u. t ≤ u)) (sym best.at_these) after_none) best.in_order in
          let lives : need - 1 < ends entry = kept_before es g.margin s t ends best.plan order best.kept needed (need - 1) (omega arith) (omega arith) (omega arith) entry over in
          let low = end_below_bound es ends prev entry in
          omega arith)
    ]

-- the same pairs force from a later start that comes after no moment
forced_later :
    (g : Forest) (s t : ℕ) (ts : List ℕ) → IsPlanOf g s ts → All (λ u. t ≤ u) ts → (xs : List Force) (prev : Option ℕ) →
    AllForcedAs g.entries g.margin s (end_of g.entries) prev xs → AllForcedAs g.entries g.margin t (end_of g.entries) prev xs
forced_later g s t ts best after_none [] prev forced = tt
forced_later g s t ts best after_none (x ∷ xs) prev forced =
    let f = forced.0 in (
      record { over = f.over; later = need_later g s t ts best after_none prev x.entry x.needed f.over f.later f.short; short = f.short; due = f.due },
      forced_later g s t ts best after_none xs (Some x.at) forced.1,
    )

-- an end after a round that was answered by the rule is at most the bound that the round leaves, and so is each bound
answered_end : (g h : Forest) (t : ℕ) (next : Option ℕ) → IsAnsweredByRule g h t next → (i u : ℕ) → t ≤ u → end_of h.entries i ≤ bound g.entries (end_of g.entries) (Some u) i
unfolding bound latest_end
answered_end g h t next answered i u later =
    let es = g.entries in
    let ends = end_of es in
    let e = entry_at es i in
    let is : ends_after_wake_up es g.margin ends (asking es g.margin t ends t next) i ≡ end_of h.entries i = ap (λ (f : ℕ → ℕ). f i) (after_answers g h t next answered) in
    elim (cases_Bool (is_to_be_asked es g.margin t ends t next i)) [
      | inl wanted ↦
          let new = after_wanted es g.margin t ends t next i wanted in
          let most = cond-true e.renewable (max (ends i) (renewal e u)) (ends i) (wanted_renewable es g.margin t ends t next i wanted) in
          let l = renewal_later e t u later in
          omega arith
      | inr unwanted ↦
          let same = after_unwanted es g.margin t ends t next i unwanted in
          let low = by_test e.renewable (ends i) (renewal e u) in
          omega arith
    ] where
      by_test : (b : Bool) (end new : ℕ) → end ≤ cond b (max end new) end
      by_test true end new = omega arith
      by_test false end new = omega arith

bound_first : (es : List Entry) (ends : ℕ → ℕ) (i : ℕ) → bound es ends None i ≡ ends i
unfolding bound latest_end
bound_first es ends i = refl

bound_behind :
    (g h : Forest) → IsForest g → (t : ℕ) (next : Option ℕ) → IsAnsweredByRule g h t next → (i u : ℕ) → t ≤ u →
    bound h.entries (end_of h.entries) (Some u) i ≤ bound g.entries (end_of g.entries) (Some u) i
unfolding bound latest_end
bound_behind g h forest t next answered i u later =
    let e = entry_at g.entries i in
    let f = entry_at h.entries i in
    let alike = answered_alike g h forest t next answered in
    let end : end_of h.entries i ≤ cond e.renewable (max (end_of g.entries i) (renewal e u)) (end_of g.entries i) = answered_end_here in
    let same : renewal f u ≡ renewal e u = renewal_alike g.entries h.entries alike i u in
    let able : f.renewable ≡ e.renewable = alike.renewable i in
    subst (λ b. cond b (max (end_of h.entries i) (renewal f u)) (end_of h.entries i) ≤ cond e.renewable (max (end_of g.entries i) (renewal e u)) (end_of g.entries i)) (sym able)
    (subst (λ n. cond e.renewable (max (end_of h.entries i) n) (end_of h.entries i) ≤ cond e.renewable (max (end_of g.entries i) (renewal e u)) (end_of g.entries i)) (sym same)
    (by_test e.renewable (end_of h.entries i) (end_of g.entries i) (renewal e u) end)) where
      answered_end_here : end_of h.entries i ≤ cond (entry_at g.entries i).renewable (max (end_of g.entries i) (renewal (entry_at g.entries i) u)) (end_of g.entries i)
      answered_end_here = answered_end g h t next answered i u later

      by_test : (b : Bool) (x y new : ℕ) → x ≤ cond b (max y new) y → cond b (max x new) x ≤ cond b (max y new) y
      by_test true x y new l = omega arith
      by_test false x y new l = l

-- the same pairs force after such a round, as long as the bounds are no greater
forced_behind :
    (g h : Forest) → IsForest g → (s t : ℕ) (ts : List ℕ) → IsPlanOf g s (t ∷ ts) → IsAnsweredByRule g h t (first_of ts) → (xs : List Force) (before : Option ℕ) (prev : ℕ) → t ≤ prev →
    All (λ u. t ≤ u) (moments_of xs) → ((i : ℕ) → bound h.entries (end_of h.entries) before i ≤ bound g.entries (end_of g.entries) (Some prev) i) →
    AllForcedAs g.entries g.margin s (end_of g.entries) (Some prev) xs → AllForcedAs h.entries h.margin t (end_of h.entries) before xs
forced_behind g h forest s t ts best answered [] before prev from later low forced = tt
forced_behind g h forest s t ts best answered (x ∷ xs) before prev from later low forced =
    let f = forced.0 in
    let alike = answered_alike g h forest t (first_of ts) answered in
    let need : (entry_at h.entries x.needed).need ≡ (entry_at g.entries x.needed).need = ap (λ (e : Entry). e.need) (answered.each x.needed) in
    let margin : h.margin ≡ g.margin = answered.margin in
    let at_most = low x.entry in
    let short = f.short in
    let due = f.due in
    let first : t ≤ x.at = All-head (λ u. t ≤ u) x.at (moments_of xs) later in
    let after = need_later g s t (t ∷ ts) best (best_first g s t ts best).1 (Some prev) x.entry x.needed f.over f.later f.short in (
      record { over = over_alike g.entries h.entries alike x.entry x.needed ∙ f.over; later = omega arith; short = omega arith; due = omega arith },
      forced_behind g h forest s t ts best answered xs (Some x.at) x.at first (All-tail (λ u. t ≤ u) x.at (moments_of xs) later)
          (λ i. bound_behind g h forest t (first_of ts) answered i x.at first) forced.1,
    )

pub still_forced : StillForcedLaw
still_forced g s x xs forest best forced =
    let first = best_first g s x.at (moments_of xs) best in (
      λ t early. forced_later g s t (moments_of (x ∷ xs)) best (λ k d within. let l = first.1 k d within in omega arith) (x ∷ xs) None forced,
      λ h answered. forced_behind g h forest s x.at (moments_of xs) best answered xs None x.at (omega arith) (All-tail (λ u. x.at ≤ u) x.at (moments_of xs) first.1)
          (λ i. let e = bound_first h.entries (end_of h.entries) i in let l = answered_end g h x.at (first_of (moments_of xs)) answered i x.at (omega arith) in omega arith) forced.1,
    )
