-- What a tick finds: whose answers a round waits for that opens, the plan that stays or is made anew, and what it says.
use Rattle.std.proofs.Common.{◌≡◌, ◌==◌, ◌∙◌, ℕ, zero, suc, ◌+◌, ◌<◌, ◌≤◌, ◌||◌, Bool, true, false, cond, List, [], ◌∷◌, Option, Some, None, filter, get_or, length, nat_lt, set, take, refl, sym, ap, subst, arith, inl, inr}
use Rattle.std.proofs.lemmas.{Bool.cases_Bool, Bool.cases_eq, Bool.Decides.nat_tests, List.Folds.list_any-append}
use Rattle.std.proofs.lemmas.List.{get_or-set_other, get_or-set_same, length-set, take_more}
use Rattle.std.proofs.lemmas.List.Elements.{All-from_get_or, All-get_or, All-nil}
use Rattle.std.specs.List.{All, list_any, range_with_len}
use Rattle.base_moment.specs.declared.moment.TheConstants.{LAST}
use Rattle.plan_forest.specs.{declared.entry.Entry.Entry, Forest.Forest, Forest.end_of, Push.IsForest}
use Rattle.plan_forest.proofs.Carrying.{or_left, or_right}
use Rattle.plan_rule.specs.{Plans.asks_past, declared.force.Force.Force, Runs.moments_of}
use Rattle.plan_rule.specs.Asks.{asks, first_of, is_to_be_asked}
use Rattle.plan_rule.proofs.{Asking.asks_within, LaterStart.same_asks}
use Rattle.plan_needs.specs.Carried.{IsCarried}
use Rattle.plan_search.specs.Planned.{IsTail, Planned, next_after, to_come}
use Rattle.tick_keeper.specs.{declared.event.Output.Output, declared.opening.Opening.Opening, InForce.AllForcedAs, Replan.IsPlanOf, Replan.Replan, State.CoreState, States.RoundIsOpened}
use Rattle.tick_keeper.specs.code.Keeping.{IsKeeper, IsOpen, flag_of, waited_for}
use Rattle.tick_keeper.specs.Step.{IsDueBy, StepTick, round_opened}
use Rattle.tick_keeper.specs.code.Waking.{AreFlags, CoreWakes, IsRoundOpening, is_late}
use Rattle.tick_keeper.specs.declared.event.Output.TheVariants as out
use Rattle.tick_keeper.proofs.{Forces.still_forced, Made.count_moments, Opened.opens as opens_whole, Standing.best_first, Standing.tick, Waiting.kept_test, Waiting.kept_there}
use Rattle.tick_keeper.proofs.ByRule.{next_is, opens_by_rule, rises_strictly}

-- tests that agree on a range keep the same of it
agree_in : (p q : ℕ → Bool) (n a : ℕ) → ((i : ℕ) → a ≤ i → i < a + n → p i ≡ q i) → filter p (range_with_len a n) ≡ filter q (range_with_len a n)
agree_in p q zero a same = refl
agree_in p q (suc n) a same =
    ap (λ b. cond b (a ∷ filter p (range_with_len (a + 1) n)) (filter p (range_with_len (a + 1) n))) (same a (omega arith) (omega arith))
    ∙ ap (λ rest. cond (q a) (a ∷ rest) rest) (agree_in p q n (a + 1) (λ i low high. same i (omega arith) (omega arith)))

by_answer : (a b : Bool) → (a ≡ true → b ≡ true) → (b ≡ true → a ≡ true) → a ≡ b
by_answer true b f g = sym (f refl)
by_answer false true f g = g refl
by_answer false false f g = refl

waited_asked : (p : ℕ → Bool) (n : ℕ) (flags : List Bool) → AreFlags n (filter p (range_with_len 0 n)) flags → waited_for flags ≡ filter p (range_with_len 0 n)
unfolding waited_for
waited_asked p n flags f =
    let asked = filter p (range_with_len 0 n) in
    ap (λ k. filter (flag_of flags) (range_with_len 0 k)) f.count
    ∙ agree_in (flag_of flags) p n 0 (λ i low high. f.each i ∙ by_answer (list_any (λ j. j == i) asked) (p i) (kept_test p n 0 i) (kept_there p n 0 i low high))

module _ (es : List Entry) (margin s : ℕ) (ends : ℕ → ℕ) (t : ℕ) (next : Option ℕ) where
  -- with such flags the answers of those are waited for that are asked
  pub asks_waited : (flags : List Bool) → AreFlags (length es) (asks es margin s ends t next) flags → waited_for flags ≡ asks es margin s ends t next
  unfolding asks
  asks_waited flags f = waited_asked (is_to_be_asked es margin s ends t next) (length es) flags f

  -- the Asks are entries, and no more than there are
  pub asks_inside : asks_past (length es) (asks es margin s ends t next) ≡ false
  unfolding asks
  asks_inside = asks_within (is_to_be_asked es margin s ends t next) (length es) 0 (length es) (omega arith)

  pub asks_few : length (asks es margin s ends t next) ≤ length es
  unfolding asks
  asks_few = length-filter_within (is_to_be_asked es margin s ends t next) (length es) 0 where
    length-filter_within : (p : ℕ → Bool) (n a : ℕ) → length (filter p (range_with_len a n)) ≤ n
    length-filter_within p zero a = omega arith
    length-filter_within p (suc n) a =
        let rest = length-filter_within p n (a + 1) in
        elim (cases_Bool (p a)) [
          | inl yes' ↦ let l = ap (λ b. length (cond b (a ∷ filter p (range_with_len (a + 1) n)) (filter p (range_with_len (a + 1) n)))) yes' in omega arith
          | inr no' ↦ let l = ap (λ b. length (cond b (a ∷ filter p (range_with_len (a + 1) n)) (filter p (range_with_len (a + 1) n)))) no' in omega arith
        ]

or_off : (a b : Bool) → b ≡ false → a || (b || false) ≡ a
or_off true b e = refl
or_off false true e = absurd cc
or_off false false e = refl

-- one more that is asked
pub flags_more : (n : ℕ) (items : List ℕ) (flags : List Bool) (k j : ℕ) → k < length items → j ≡ get_or items k 0 → j < n → AreFlags n (take k items) flags → AreFlags n (take (k + 1) items) (set flags j true)
flags_more n items flags k j within is inside so_far =
    let before : ℕ → Bool = λ i. list_any (λ m. m == i) (take k items) in
    let step : (i : ℕ) → list_any (λ m. m == i) (take (k + 1) items) ≡ before i || ((j == i) || false) = λ i.
    ap (list_any (λ m. m == i)) (take_more items k 0 within) ∙ list_any-append (λ m. m == i) (take k items) (get_or items k 0 ∷ [])
    ∙ ap (λ m. before i || ((m == i) || false)) (sym is) in
    record {
      count = length-set flags j true ∙ so_far.count;
      each = λ i. elim (cases_eq i j) [
        | inl same ↦
            let here : (j == i) ≡ true = grind (arith, nat_tests) in
            ap (flag_of (set flags j true)) same ∙ get_or-set_same flags j true false (omega (arith, so_far.count))
            ∙ sym (step i ∙ or_right (before i) ((j == i) || false) (or_left (j == i) false here))
        | inr apart ↦
            let away : (j == i) ≡ false = grind (arith, nat_tests) in
            get_or-set_other flags j i true false apart ∙ so_far.each i ∙ sym (step i ∙ or_off (before i) (j == i) away)
      ];
    }

-- where the first wake-up does not come after t, it is at t, and what the plan asks are the Asks from t
pub asked_now :
    (h : Forest) → IsForest h → (s t : ℕ) (x : Force) (xs : List Force) → s ≤ t → x.at ≤ t → IsPlanOf h t (moments_of (x ∷ xs)) →
    (x.at ≡ t) × (asks h.entries h.margin s (end_of h.entries) t (next_after t (x ∷ xs)) ≡ asks h.entries h.margin t (end_of h.entries) t (first_of (moments_of xs)))
asked_now h forest s t x xs start before best =
    let ends = end_of h.entries in
    let later = (best_first h t x.at (moments_of xs) best).0 in
    let at : x.at ≡ t = omega arith in
    let rises = rises_strictly h forest t (moments_of (x ∷ xs)) best in (
      at,
      same_asks h.entries h.margin s t t ends (next_after t (x ∷ xs)) start (omega arith)
          ∙ ap (asks h.entries h.margin t ends t) (next_is t x xs at rises.1),
    )

-- a tick that is not late comes after none of the moments
pub none_before : (h : Forest) (s t : ℕ) (ts : List ℕ) → IsPlanOf h s ts → is_late t (first_of ts) ≡ false → All (λ u. t ≤ u) ts
none_before h s t [] best e = All-nil (λ u. t ≤ u)
none_before h s t (w ∷ ts) best e =
    let first : t ≤ w = (let no' : nat_lt w t ≡ false = e in grind (arith, nat_tests)) in
    let from = (best_first h s w ts best).1 in
    All-from_get_or (λ u. t ≤ u) (w ∷ ts) 0 (λ i within. let l = All-get_or (λ u. w ≤ u) (w ∷ ts) i 0 within from in omega arith)

-- a late tick is past the first of them
pub late_due : (t : ℕ) (next : Option ℕ) → is_late t next ≡ true → IsDueBy t next
late_due t None e = absurd cc
late_due t (Some w) e = (let yes' : nat_lt w t ≡ true = e in grind (arith, nat_tests))

forced_then :
    (h : Forest) → IsForest h → (s t : ℕ) (xs : List Force) → IsPlanOf h s (moments_of xs) → is_late t (first_of (moments_of xs)) ≡ false →
    AllForcedAs h.entries h.margin s (end_of h.entries) None xs → AllForcedAs h.entries h.margin t (end_of h.entries) None xs
forced_then h forest s t [] best e forced = tt
forced_then h forest s t (x ∷ xs) best e forced =
    let no' : nat_lt x.at t ≡ false = e in
    (still_forced h s x xs forest best forced).0 t (grind (arith, nat_tests))

-- then the parts of a keeper belong together at the tick's moment
pub kept_keeper : (h : Forest) (s t : ℕ) (p : Planned) → IsKeeper h s p None → s ≤ t → t ≤ LAST → is_late t (first_of (moments_of (to_come p))) ≡ false → IsKeeper h t p None
kept_keeper h s t p k later late e =
    let ts = moments_of (to_come p) in
    record {
      forest = k.forest;
      late = late;
      carried = k.carried;
      start = (let l = k.start in omega arith);
      few = k.few;
      best = λ none. (tick h s t ts later (none_before h s t ts (k.best refl) e) (k.best refl)).1.1;
      forced = λ none. forced_then h k.forest s t (to_come p) (k.best refl) e (k.forced refl);
      open_round = λ r is. absurd cc;
    }

-- and once a round has opened at its first wake-up
pub opened_keeper :
    (h : Forest) (t : ℕ) (p q : Planned) (o : Opening) → IsKeeper h t p None → IsRoundOpening h t (moments_of (to_come p)) o → q.start ≡ p.start → q.carried ≡ p.carried →
    IsTail (to_come p) (to_come q) → IsKeeper h t q (Some o.round)
opened_keeper h t p q o k opens start carried tail =
    let es = h.entries in
    let x = tail.0 in
    let ts = moments_of (to_come q) in
    let is : moments_of (to_come p) ≡ x.at ∷ ts = ap moments_of tail.1 in
    let both : x.at ∷ ts ≡ t ∷ opens.rest = sym is ∙ opens.is in
    let at : x.at ≡ t = cc in
    let rest : ts ≡ opens.rest = cc in
    let best : IsPlanOf h t (t ∷ ts) = subst (IsPlanOf h t) (is ∙ ap (λ n. n ∷ ts) at) (k.best refl) in
    let forced : AllForcedAs es h.margin t (end_of es) None (x ∷ to_come q) = subst (AllForcedAs es h.margin t (end_of es) None) tail.1 (k.forced refl) in
    let asked : o.asked ≡ asks es h.margin t (end_of es) t (first_of ts) = opens.asked ∙ ap (λ us. asks es h.margin t (end_of es) t (first_of us)) (sym rest) in
    let open_now : IsOpen h t q o.round = record {
      at = opens.at;
      count = opens.count;
      left = opens.left ∙ ap length (sym opens.waiting);
      some = (let l = opens.left in let n = opens.some in omega arith);
      opened = subst (RoundIsOpened h ts) (sym (ap (λ n. record { at = n; unanswered = waited_for o.round.waiting.items }) opens.at ∙ ap (λ us. record { at = t; unanswered = us }) (opens.waiting ∙ asked)))
          (opens_whole h t ts k.forest best (let c = count_moments (to_come q) in let l = ap length tail.1 in let n = k.few in omega arith));
      by_rule = λ _. opens_by_rule h opens.forest t x q at best forced o.round.waiting.items (opens.waiting ∙ asked);
    } in
    record {
      forest = k.forest;
      late = k.late;
      carried = subst (λ n. IsCarried h n q.carried) (sym start) (subst (IsCarried h p.start) (sym carried) k.carried);
      start = (let l = k.start in omega arith);
      few = (let l = ap length tail.1 in let n = k.few in omega arith);
      best = λ none. absurd cc;
      forced = λ none. absurd cc;
      open_round = λ r is_r. let same : o.round ≡ r = cc in subst (IsOpen h t q) same open_now;
    }

-- what a state says that was planned anew, or whose plan stayed, is the step of a tick
pub tick_step : (old mid new : CoreState) (t : ℕ) (output : Output) → Replan old t mid → CoreWakes mid output new → StepTick old t output new
tick_step old mid new t out.Idle r w = (subst (Replan old t) (sym w.1) r, ap (λ (s : CoreState). s.to_come) w.1 ∙ w.0)
tick_step old mid new t (out.Sleep u) r w =
    let last : mid.last ≡ t = ap (λ (s : CoreState). s.last) r.is in
    (subst (Replan old t) (sym w.1.1) r, (ap (λ (s : CoreState). first_of s.to_come) w.1.1 ∙ w.0, (let l = w.1.0 in omega arith)))
tick_step old mid new t (out.Ask asked) r w =
    let last : mid.last ≡ t = ap (λ (s : CoreState). s.last) r.is in
    let Goal : ℕ → Type 0 = λ n.
    (mid.to_come ≡ n ∷ w.0) × ((asked ≡ (round_opened mid n (first_of w.0)).unanswered) × (new ≡ record mid { to_come = w.0; round = Some (round_opened mid n (first_of w.0)) })) in
    (mid, (r, (w.0, subst Goal last w.1)))
tick_step old mid new t _ r w = absurd w
