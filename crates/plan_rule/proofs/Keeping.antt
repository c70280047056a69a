-- The laws of keeping: what cannot be kept, what cannot be put off, and that there is one least list of moments.
use Rattle.std.proofs.Common.{◌≡◌, ℕ, zero, suc, ◌+◌, ◌<◌, ◌≤◌, ◌&&◌, ◌++◌, Bool, true, false, cond, List, [], ◌∷◌, Option, Some, None, length, max, nat_le, get_or, option_map, refl, sym, ap, ◌∙◌, subst, arith, inl, inr}
use Rattle.std.proofs.lemmas.{Bool.cases_Bool, Bool.cases_lt, Bool.cond-true, Bool.Decides.nat_tests, List.append_assoc, List.ext_get_or, List.length-map}
use Rattle.plan_forest.specs.{declared.entry.Entry.Entry, Forest.entry_at, Renewal.capped, Renewal.renewal}
use Rattle.plan_rule.specs.{declared.wake.Wake.Wake, Forced.AllForced, Forced.bound, Forced.latest_end, Keeps.Keeps, Laws.ForcedLaw, Laws.UniqueLaw, Laws.UnkeepableLaw, Plans.IsPlan, Plans.moments, Reach.reach, Reach.reach_of}
use Rattle.plan_rule.proofs.Stuck.{AllStuck, IsStuck, gone}

-- each wake-up from s on is stuck where that holds of each moment from s on
pub stuck_from : (es : List Entry) (margin s i b : ℕ) → ((t : ℕ) → s ≤ t → IsStuck es margin i b t) → (ws : List Wake) → IsPlan s ws → AllStuck es margin i b ws
stuck_from es margin s i b each [] plan = tt
stuck_from es margin s i b each (w ∷ ws) plan =
    let l : s ≤ w.at = plan.0 in
    (each w.at plan.0, stuck_from es margin w.at i b (λ t h. each t (omega arith)) ws plan.1.1)

capped_below : (ceiling : Option ℕ) (t end most : ℕ) → option_map (λ c. max end c) ceiling ≡ Some most → capped ceiling t ≤ most
unfolding capped
capped_below None t end most e = absurd cc
capped_below (Some c) t end most e = let m : max end c ≡ most = cc in omega arith

-- how far an entry reaches: its end is at most that, and no renewal from s on passes it
reach_stuck : (es : List Entry) (margin s : ℕ) (ends : ℕ → ℕ) (i most : ℕ) → reach es margin s ends i ≡ Some most → (ends i ≤ most) × ((t : ℕ) → s ≤ t → IsStuck es margin i most t)
unfolding reach reach_of renewal
reach_stuck es margin s ends i most is =
    let e = entry_at es i in
    elim (cases_Bool e.renewable) [
      | inl renewable ↦ elim (cases_lt (ends i) (s + margin)) [
        | inl early ↦
            let test : nat_le (s + margin) (ends i) ≡ false = grind (arith, nat_tests) in
            let same : Some (ends i) ≡ Some most =
            sym (ap (λ b. cond (b && nat_le (s + margin) (ends i)) (option_map (λ c. max (ends i) c) e.ceiling) (Some (ends i))) renewable
            ∙ ap (λ b. cond b (option_map (λ c. max (ends i) c) e.ceiling) (Some (ends i))) test) ∙ is in
            let end : ends i ≡ most = cc in
            (omega arith, λ t h. inr (inl (omega arith)))
        | inr last ↦
            let test : nat_le (s + margin) (ends i) ≡ true = grind (arith, nat_tests) in
            let same : option_map (λ c. max (ends i) c) e.ceiling ≡ Some most =
            sym (ap (λ b. cond (b && nat_le (s + margin) (ends i)) (option_map (λ c. max (ends i) c) e.ceiling) (Some (ends i))) renewable
            ∙ ap (λ b. cond b (option_map (λ c. max (ends i) c) e.ceiling) (Some (ends i))) test) ∙ is in
            (end_below e.ceiling (ends i) most same, λ t h. inr (inr (capped_below e.ceiling (t + e.step) (ends i) most same)))
      ]
      | inr fixed ↦
          let same : Some (ends i) ≡ Some most =
          sym (ap (λ b. cond (b && nat_le (s + margin) (ends i)) (option_map (λ c. max (ends i) c) e.ceiling) (Some (ends i))) fixed) ∙ is in
          let end : ends i ≡ most = cc in
          (omega arith, λ t h. inl fixed)
    ] where
      end_below : (ceiling : Option ℕ) (end m : ℕ) → option_map (λ c. max end c) ceiling ≡ Some m → end ≤ m
      end_below None end m e = absurd cc
      end_below (Some c) end m e = let k : max end c ≡ m = cc in omega arith

pub unkeepable : UnkeepableLaw
unkeepable es margin s ends entry needed pair plan in_order keeps =
    let stuck = reach_stuck es margin s ends entry pair.most pair.reaches in
    gone es margin s ends plan entry needed pair.most pair.over pair.later pair.short stuck.0 (stuck_from es margin s entry pair.most stuck.1 plan in_order) keeps

-- the moments of the first list are no later than those of the second, which it has one of for each
abbrev NoLater : List ℕ → List ℕ → Type 0
NoLater ts [] = Unit {0}
NoLater [] (u ∷ us) = ⊥
NoLater (t ∷ ts) (u ∷ us) = (t ≤ u) × NoLater ts us

-- wake-ups at prev or before, of which there is none where there is no prev
abbrev pub DoneBy : Option ℕ → List Wake → Type 0
DoneBy prev [] = Unit {0}
DoneBy None (w ∷ ws) = ⊥
DoneBy (Some t) (w ∷ ws) = (w.at ≤ t) × DoneBy (Some t) ws

capped_later : (c : Option ℕ) (t u : ℕ) → t ≤ u → capped c t ≤ capped c u
unfolding capped
capped_later None t u h = h
capped_later (Some c) t u h = omega arith

pub renewal_later : (e : Entry) (t u : ℕ) → t ≤ u → renewal e t ≤ renewal e u
unfolding renewal
renewal_later e t u h = capped_later e.ceiling (t + e.step) (u + e.step) (omega arith)

late_stuck : (es : List Entry) (margin : ℕ) (ends : ℕ → ℕ) (t u i : ℕ) → u ≤ t → IsStuck es margin i (bound es ends (Some t) i) u
unfolding bound latest_end
late_stuck es margin ends t u i h =
    let e = entry_at es i in
    elim (cases_Bool e.renewable) [
      | inl renewable ↦
          let is : cond e.renewable (max (ends i) (renewal e t)) (ends i) ≡ max (ends i) (renewal e t) = cond-true e.renewable (max (ends i) (renewal e t)) (ends i) renewable in
          let l = renewal_later e u t h in
          inr (inr (omega (arith, is)))
      | inr fixed ↦ inl fixed
    ]

-- what is done by prev leads no end past the bound of prev
pub done_stuck : (es : List Entry) (margin : ℕ) (ends : ℕ → ℕ) (prev : Option ℕ) (i : ℕ) (done : List Wake) → DoneBy prev done → AllStuck es margin i (bound es ends prev i) done
done_stuck es margin ends prev i [] by = tt
done_stuck es margin ends None i (w ∷ ws) by = absurd by
done_stuck es margin ends (Some t) i (w ∷ ws) by = (late_stuck es margin ends t w.at i by.0, done_stuck es margin ends (Some t) i ws by.1)

-- an end is at most its bound
pub end_below_bound : (es : List Entry) (ends : ℕ → ℕ) (prev : Option ℕ) (i : ℕ) → ends i ≤ bound es ends prev i
unfolding bound latest_end
end_below_bound es ends None i = omega arith
end_below_bound es ends (Some t) i = by_test (entry_at es i).renewable (ends i) (renewal (entry_at es i) t) where
  by_test : (b : Bool) (end new : ℕ) → end ≤ cond b (max end new) end
  by_test true end new = omega arith
  by_test false end new = omega arith

-- wake-ups after u come too late for a bound that u + margin reaches
after_stuck : (es : List Entry) (margin i b u : ℕ) (ws : List Wake) → b ≤ u + margin → IsPlan (u + 1) ws → AllStuck es margin i b ws
after_stuck es margin i b u ws due plan = stuck_from es margin (u + 1) i b (λ t h. inr (inl (omega arith))) ws plan

pub append_stuck : (es : List Entry) (margin i b : ℕ) (xs ys : List Wake) → AllStuck es margin i b xs → AllStuck es margin i b ys → AllStuck es margin i b (xs ++ ys)
append_stuck es margin i b [] ys a c = c
append_stuck es margin i b (x ∷ xs) ys a c = (a.0, append_stuck es margin i b xs ys a.1 c)

-- a wake-up more that is done
pub done_more : (prev : Option ℕ) (u : ℕ) (done : List Wake) (w : Wake) → DoneBy prev done → ((t : ℕ) → prev ≡ Some t → t ≤ u) → w.at ≤ u → DoneBy (Some u) (done ++ w ∷ [])
done_more prev u [] w by le h = (h, tt)
done_more None u (v ∷ done) w by le h = absurd by
done_more (Some t) u (v ∷ done) w by le h = let l : t ≤ u = le t refl in let k : v.at ≤ t = by.0 in (omega arith, done_more (Some t) u done w by.1 le h)

-- a plan after u, where its first wake-up is
later_plan : (s u : ℕ) (w : Wake) (ws : List Wake) → IsPlan s (w ∷ ws) → u < w.at → IsPlan (u + 1) (w ∷ ws)
later_plan s u w ws plan h = (omega arith, plan.1)

-- moments of which none is before t, and none less than the one in front of it
abbrev pub IsRising : ℕ → List ℕ → Type 0
IsRising t [] = Unit {0}
IsRising t (u ∷ us) = (t ≤ u) × IsRising u us

-- a plan that keeps has, for each forced moment, a wake-up that is no later
no_later :
    (es : List Entry) (margin s : ℕ) (ends : ℕ → ℕ) (us : List ℕ) (prev : Option ℕ) (low from : ℕ) (done rest : List Wake) →
    DoneBy prev done → IsPlan from rest → IsRising low us → ((t : ℕ) → prev ≡ Some t → t ≤ low) → AllForced es margin s ends prev us → Keeps es margin s ends (done ++ rest) →
    NoLater (moments rest) us
no_later es margin s ends [] prev low from done rest by plan rising le forced keeps = tt
no_later es margin s ends (u ∷ us) prev low from done [] by plan rising le forced keeps =
    let f = forced.0 in
    gone es margin s ends (done ++ []) f.0 f.1 (bound es ends prev f.0) f.2.over f.2.later f.2.short (end_below_bound es ends prev f.0)
    (append_stuck es margin f.0 (bound es ends prev f.0) done [] (done_stuck es margin ends prev f.0 done by) tt) keeps
no_later es margin s ends (u ∷ us) prev low from done (w ∷ rest) by plan rising le forced keeps =
    let l : low ≤ u = rising.0 in
    elim (cases_lt u w.at) [
      | inl late ↦
          let f = forced.0 in
          absurd (gone es margin s ends (done ++ w ∷ rest) f.0 f.1 (bound es ends prev f.0) f.2.over f.2.later f.2.short (end_below_bound es ends prev f.0)
          (append_stuck es margin f.0 (bound es ends prev f.0) done (w ∷ rest) (done_stuck es margin ends prev f.0 done by)
          (after_stuck es margin f.0 (bound es ends prev f.0) u (w ∷ rest) f.2.due (later_plan from u w rest plan late))) keeps)
      | inr here ↦
          let same : (done ++ w ∷ []) ++ rest ≡ done ++ w ∷ rest = append_assoc done (w ∷ []) rest in (
            here,
            no_later es margin s ends us (Some u) u w.at (done ++ w ∷ []) rest
                (done_more prev u done w by (λ t e. let k : t ≤ low = le t e in omega arith) here) plan.1.1 rising.1 (λ t e. let k : u ≡ t = cc in omega arith) forced.1
                (subst (Keeps es margin s ends) (sym same) keeps),
          )
    ]

pub plan_rises : (s : ℕ) (ws : List Wake) → IsPlan s ws → IsRising s (moments ws)
plan_rises s [] plan = tt
plan_rises s (w ∷ ws) plan = (plan.0, plan_rises w.at ws plan.1.1)

no_later_length : (ts us : List ℕ) → NoLater ts us → length us ≤ length ts
no_later_length ts [] none_later = omega arith
no_later_length [] (u ∷ us) none_later = absurd none_later
no_later_length (t ∷ ts) (u ∷ us) none_later = let h : length us ≤ length ts = no_later_length ts us none_later.1 in omega arith

no_later_each : (ts us : List ℕ) → NoLater ts us → (k : ℕ) → k < length us → get_or ts k 0 ≤ get_or us k 0
no_later_each ts [] none_later k h = absurd (omega arith)
no_later_each [] (u ∷ us) none_later k h = absurd none_later
no_later_each (t ∷ ts) (u ∷ us) none_later zero h = none_later.0
no_later_each (t ∷ ts) (u ∷ us) none_later (suc k) h = no_later_each ts us none_later.1 k (omega arith)

pub forced_is_least : ForcedLaw
forced_is_least es margin s ends plan in_order keeps forced =
    let against : (other : List Wake) → IsPlan s other → Keeps es margin s ends other → NoLater (moments other) (moments plan) =
    λ other other_order other_keeps. no_later es margin s ends (moments plan) None s s [] other tt other_order (plan_rises s plan in_order) (λ t e. absurd cc) forced other_keeps in
    record {
      plan = plan;
      in_order = in_order;
      at_these = refl;
      kept = keeps;
      least = λ other o k. let h = no_later_length (moments other) (moments plan) (against other o k) in omega (arith, length-map other (λ w. w.at));
      latest = λ other o k n h. no_later_each (moments other) (moments plan) (against other o k) n h;
    }

pub one_least : UniqueLaw
one_least es margin s ends ts us a b =
    let sizes : length a.plan ≡ length ts = sym (length-map a.plan (λ w. w.at)) ∙ ap length a.at_these in
    let sizes' : length b.plan ≡ length us = sym (length-map b.plan (λ w. w.at)) ∙ ap length b.at_these in
    let one : length us ≤ length ts = (let h = b.least a.plan a.in_order a.kept in omega arith) in
    let other : length ts ≤ length us = (let h = a.least b.plan b.in_order b.kept in omega arith) in
    let same : length ts ≡ length us = omega arith in
    ext_get_or 0 ts us same (λ k h.
    let up : get_or us k 0 ≤ get_or ts k 0 = subst (λ xs. get_or xs k 0 ≤ get_or ts k 0) b.at_these (a.latest b.plan b.in_order b.kept k h) in
    let down : get_or ts k 0 ≤ get_or us k 0 = subst (λ xs. get_or xs k 0 ≤ get_or us k 0) a.at_these (b.latest a.plan a.in_order a.kept k (omega arith)) in
    omega arith)
