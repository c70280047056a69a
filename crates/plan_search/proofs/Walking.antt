-- Runs without their first wake-up: what they stand for; for `drop_first` and `Wakes`.
use Rattle.std.proofs.Common.{◌≡◌, ◌≢◌, ◌==◌, ◌∙◌, ℕ, zero, suc, ◌+◌, ◌-◌, ◌*◌, ◌<◌, ◌++◌, List, [], ◌∷◌, true, false, cond, Option, Some, None, length, drop, get_or, set, refl, sym, ap, subst, arith, inl, inr}
use Rattle.std.proofs.lemmas.{Bool.cases_Bool, Bool.cases_lt, Bool.cond-true, Bool.cond-false, Bool.Decides.nat_tests, List.drop-set, List.drop_all, List.drop_more, List.length-append}
use Rattle.plan_rule.specs.{declared.force.Force.Force, declared.run.Run.Run, Runs.AreRuns, Runs.IsRun, Runs.all_wakes, Runs.wakes, Runs.wakes_of}
use Rattle.plan_search.specs.Planned.{IsPlanned, IsTail, Planned, behind_first, in_front, to_come, without_first}

-- the first wake-up of a run
abbrev pub first_wake : Run → Force
first_wake r = record { at = r.first; entry = r.entry; needed = r.needed }

pub length_wakes_of : (a d c e n : ℕ) → length (wakes_of a d c e n) ≡ c
unfolding wakes_of
length_wakes_of a d zero e n = refl
length_wakes_of a d (suc c) e n = ap (λ k. suc k) (length_wakes_of (a + d) d c e n)

pub length_all_cons : (r : Run) (rs : List Run) → length (all_wakes (r ∷ rs)) ≡ r.count + length (all_wakes rs)
length_all_cons r rs = length-append (wakes r) (all_wakes rs) ∙ ap (λ k. k + length (all_wakes rs)) (length_wakes_of r.first r.step r.count r.entry r.needed)

-- the step of a run of one wake-up plays no part
wakes_one : (a d g e n c : ℕ) → c ≡ 1 → wakes_of a d c e n ≡ wakes_of a g c e n
unfolding wakes_of
wakes_one a d g e n c one = subst (λ k. wakes_of a d k e n ≡ wakes_of a g k e n) (sym one) refl

wakes_more : (a d c k e n : ℕ) → c ≡ suc k → wakes_of a d c e n ≡ record { at = a; entry = e; needed = n } ∷ wakes_of (a + d) d k e n
unfolding wakes_of
wakes_more a d c k e n more = subst (λ j. wakes_of a d j e n ≡ record { at = a; entry = e; needed = n } ∷ wakes_of (a + d) d k e n) (sym more) refl

wakes_none : (a d c e n : ℕ) → c ≡ 0 → wakes_of a d c e n ≡ []
unfolding wakes_of
wakes_none a d c e n none = subst (λ j. wakes_of a d j e n ≡ []) (sym none) refl

wakes_step : (r : Run) (step : ℕ) → step ≡ cond (r.count == 2) 0 r.step → wakes_of (r.first + r.step) r.step (r.count - 1) r.entry r.needed ≡ wakes_of (r.first + r.step) step (r.count - 1) r.entry r.needed
wakes_step r step is =
    elim (cases_Bool (r.count == 2)) [
      | inl two ↦ wakes_one (r.first + r.step) r.step step r.entry r.needed (r.count - 1) (let e : r.count ≡ 2 = grind (arith, nat_tests) in omega arith)
      | inr other ↦ ap (λ d. wakes_of (r.first + r.step) d (r.count - 1) r.entry r.needed) (sym (is ∙ cond-false (r.count == 2) 0 r.step other))
    ]

-- what comes after the first wake-up of a run, where it has others
behind_more : (r : Run) → r.count == 1 ≡ false → behind_first r ≡ Some (record r { first = r.first + r.step; step = cond (r.count == 2) 0 r.step; count = r.count - 1 })
behind_more r more = cond-false (r.count == 1) None (Some (record r { first = r.first + r.step; step = cond (r.count == 2) 0 r.step; count = r.count - 1 })) more

behind_none : (r : Run) → r.count == 1 ≡ true → behind_first r ≡ None
behind_none r one = cond-true (r.count == 1) None (Some (record r { first = r.first + r.step; step = cond (r.count == 2) 0 r.step; count = r.count - 1 })) one

pub behind_wakes : (r : Run) (rs : List Run) → IsRun r → all_wakes (r ∷ rs) ≡ first_wake r ∷ all_wakes (in_front (behind_first r) rs)
behind_wakes r rs is =
    let some = is.moments.some in
    let open' : wakes r ≡ first_wake r ∷ wakes_of (r.first + r.step) r.step (r.count - 1) r.entry r.needed = wakes_more r.first r.step r.count (r.count - 1) r.entry r.needed (omega arith) in
    elim (cases_Bool (r.count == 1)) [
      | inl one ↦
          let c : r.count ≡ 1 = grind (arith, nat_tests) in
          ap (λ xs. xs ++ all_wakes rs) (open' ∙ ap (λ xs. first_wake r ∷ xs) (wakes_none (r.first + r.step) r.step (r.count - 1) r.entry r.needed (omega arith)))
          ∙ ap (λ o. first_wake r ∷ all_wakes (in_front o rs)) (sym (behind_none r one))
      | inr more ↦
          ap (λ xs. xs ++ all_wakes rs) (open' ∙ ap (λ xs. first_wake r ∷ xs) (wakes_step r (cond (r.count == 2) 0 r.step) refl))
          ∙ ap (λ o. first_wake r ∷ all_wakes (in_front o rs)) (sym (behind_more r more))
    ]

last_more : (a d c k : ℕ) → c ≡ suc (suc k) → a + (c - 1) * d ≡ (a + d) + k * d
last_more a d c k is = ap (λ n. a + n * d) (let less : c - 1 ≡ suc k = omega arith in less) ∙ (let e : a + suc k * d ≡ (a + d) + k * d = omega arith in e)

-- and that is a run again
shortened_is : (r : Run) → IsRun r → r.count == 1 ≡ false → IsRun (record r { first = r.first + r.step; step = cond (r.count == 2) 0 r.step; count = r.count - 1 })
shortened_is r is more =
    let some = is.moments.some in
    let last = is.moments.last in
    let lone = is.lone in
    let not_one : r.count ≢ 1 = λ e. absurd (let t : r.count == 1 ≡ true = grind (arith, nat_tests) in cc) in
    let same : r.first + (r.count - 1) * r.step ≡ (r.first + r.step) + (r.count - 2) * r.step = last_more r.first r.step r.count (r.count - 2) (omega arith) in
    elim (cases_Bool (r.count == 2)) [
      | inl two ↦
          let c : r.count ≡ 2 = grind (arith, nat_tests) in
          let step : cond (r.count == 2) 0 r.step ≡ 0 = cond-true (r.count == 2) 0 r.step two in
          let nothing : (r.count - 1 - 1) * cond (r.count == 2) 0 r.step ≡ 0 = ap (λ d. (r.count - 1 - 1) * d) step ∙ (let z : (r.count - 1 - 1) * 0 ≡ 0 = omega arith in z) in
          record { moments = record { some = omega arith; last = omega arith }; lone = (λ _. omega arith, λ _. step) }
      | inr other ↦
          let c : r.count ≢ 2 = λ e. absurd (let t : r.count == 2 ≡ true = grind (arith, nat_tests) in cc) in
          let step : cond (r.count == 2) 0 r.step ≡ r.step = cond-false (r.count == 2) 0 r.step other in
          let less : r.count - 1 - 1 ≡ r.count - 2 = omega arith in
          let rest : (r.count - 1 - 1) * cond (r.count == 2) 0 r.step ≡ (r.count - 2) * r.step = ap (λ d. (r.count - 1 - 1) * d) step ∙ ap (λ k. k * r.step) less in
          record { moments = record { some = omega arith; last = omega arith }; lone = (λ z. absurd (not_one (lone.0 (sym step ∙ z))), λ e. absurd (omega arith)) }
    ]

behind_is : (r s : Run) → IsRun r → behind_first r ≡ Some s → IsRun s
behind_is r s is behind =
    elim (cases_Bool (r.count == 1)) [
      | inl one ↦ absurd (let e : None ≡ Some s = sym (behind_none r one) ∙ behind in cc)
      | inr more ↦
          let e : Some (record r { first = r.first + r.step; step = cond (r.count == 2) 0 r.step; count = r.count - 1 }) ≡ Some s = sym (behind_more r more) ∙ behind in
          let same : record r { first = r.first + r.step; step = cond (r.count == 2) 0 r.step; count = r.count - 1 } ≡ s = cc in
          subst IsRun same (shortened_is r is more)
    ]

pub behind_runs : (r : Run) (rs : List Run) (o : Option Run) → o ≡ behind_first r → IsRun r → AreRuns rs → AreRuns (in_front o rs)
behind_runs r rs None behind is others = others
behind_runs r rs (Some s) behind is others = (behind_is r s is (sym behind), others)

-- the wake-ups from the run at an index on are its own and those from the next run on
pub count_from : (rs : List Run) (i : ℕ) (d : Run) → i < length rs → length (all_wakes (drop i rs)) ≡ (get_or rs i d).count + length (all_wakes (drop (i + 1) rs))
count_from rs i d h = ap (λ xs. length (all_wakes xs)) (drop_more rs i d h) ∙ length_all_cons (get_or rs i d) (drop (i + 1) rs)

-- where wake-ups are to come from the runs from an index on, there is a run at that index
pub stands : (rs : List Run) (i : ℕ) → 0 < length (all_wakes (drop i rs)) → i < length rs
stands rs i some =
    elim (cases_lt i (length rs)) [
      | inl within ↦ within
      | inr past ↦ absurd (let none : length (all_wakes (drop i rs)) ≡ 0 = ap (λ xs. length (all_wakes xs)) (drop_all i rs past) in omega arith)
    ]

-- the first run is shortened in its place
pub shortened_in_place : (rs : List Run) (i : ℕ) (r s : Run) → i < length rs → r ≡ get_or rs i r → Some s ≡ behind_first r → drop i (set rs i s) ≡ without_first (drop i rs)
shortened_in_place rs i r s h read behind =
    drop-set rs i s h ∙ ap (λ o. in_front o (drop (i + 1) rs)) behind ∙ sym (ap without_first (drop_more rs i r h ∙ ap (λ x. x ∷ drop (i + 1) rs) (sym read)))

-- or is passed over
pub passed_over : (rs : List Run) (i : ℕ) (r : Run) → i < length rs → r ≡ get_or rs i r → None ≡ behind_first r → drop (i + 1) rs ≡ without_first (drop i rs)
passed_over rs i r h read behind =
    ap (λ o. in_front o (drop (i + 1) rs)) behind ∙ sym (ap without_first (drop_more rs i r h ∙ ap (λ x. x ∷ drop (i + 1) rs) (sym read)))

pub loses_head : (rs : List Run) → AreRuns rs → 0 < length (all_wakes rs) → IsTail (all_wakes rs) (all_wakes (without_first rs))
loses_head [] runs some = absurd (omega arith)
loses_head (r ∷ rs) runs some = (first_wake r, behind_wakes r rs runs.0)

runs_left : (rs : List Run) → AreRuns rs → AreRuns (without_first rs)
runs_left [] runs = tt
runs_left (r ∷ rs) runs = behind_runs r rs (behind_first r) refl runs.0 runs.1

pub still_planned : (p : Planned) → IsPlanned p → 0 < length (to_come p) → IsPlanned (record p { runs = without_first p.runs })
still_planned p is some =
    let tail = loses_head p.runs is.runs some in
    let shorter = ap length tail.1 in
    let few = is.few in
    record { runs = runs_left p.runs is.runs; few = omega arith }
