-- Planning anew gives no more wake-ups than the plan in force has: the moment of planning, and the moments of the plan that
-- come after it, come in time for the ends and needs as they then are.
use Rattle.std.proofs.Common.{◌≡◌, ◌∙◌, ◌⊎◌, ℕ, ◌+◌, ◌<◌, ◌≤◌, Bool, true, false, cond, List, [], ◌∷◌, Option, Some, None, length, max, refl, sym, ap, subst, arith, inl, inr}
use Rattle.std.proofs.lemmas.List.{length-map}
use Rattle.std.proofs.lemmas.Bool.{cases_Bool, cases_lt, cond-true}
use Rattle.std.specs.List.{All}
use Rattle.base_moment.specs.declared.moment.TheConstants.{LAST}
use Rattle.plan_forest.specs.{declared.entry.Entry.Entry, Carried.carried, Over.is_over, Push.IsForest, Renewal.capped, Renewal.renewal}
use Rattle.plan_forest.specs.Forest.{Forest, end_of, entry_at}
use Rattle.plan_forest.proofs.Carrying.{carried_at_least, carried_is_of}
use Rattle.plan_rule.specs.{declared.wake.Wake.Wake, Forced.bound, Forced.latest_end, Plans.IsPlan, Plans.moments, Unkeepable.AllKeepable}
use Rattle.plan_rule.specs.Asks.{first_of, is_to_be_asked, with_asks}
use Rattle.plan_rule.proofs.{Existence.there_is_one, Next.can_be_led, Schedule.schedule_is_best, Schedule.schedule_timely, Tail.moments_with_asks, Timely.AllTimely, Timely.timely_keeps}
use Rattle.plan_rule.proofs.Asking.{Covers, IsSafe, asked_end, asks_wanted, covers_more, covers_need}
use Rattle.plan_rule.proofs.Joining.{InOrder, order_plan, plan_order}
use Rattle.plan_rule.proofs.Keeping.{IsRising, end_below_bound, one_least, renewal_later}
use Rattle.tick_keeper.specs.{LawsOfPlans.NoLongerLaw, Replan.IsPlanOf, States.ForestIsAnswered, Shorten.shorten}
use Rattle.tick_keeper.proofs.{Hearing.over_same, Kept.unchanged}
use Rattle.tick_keeper.proofs.Shortening.{left_at_most, need_past, shorten_at, shorten_count, shorten_ends, shorten_forest, shorten_keepable, shorten_margin}
use Rattle.tick_keeper.proofs.Standing.{best_first, best_keepable, tick}

-- the moments of a least and latest plan come in time
best_timely : (g : Forest) → IsForest g → (s : ℕ) (ts : List ℕ) → IsPlanOf g s ts → AllTimely g.entries g.margin s (end_of g.entries) None ts
best_timely g forest s ts best =
    let ends = end_of g.entries in
    let keepable = best_keepable g s ts best in
    let schedule = there_is_one g s ends forest keepable in
    let is = schedule_is_best g s ends forest keepable schedule.0 schedule.1 in
    subst (AllTimely g.entries g.margin s ends None) (one_least g.entries g.margin s ends schedule.0 ts is.1.1.1 best)
    (schedule_timely g forest s ends keepable schedule.0 None schedule.1)

best_order : (g : Forest) (s : ℕ) (ts : List ℕ) → IsPlanOf g s ts → InOrder s ts
best_order g s ts best = subst (InOrder s) best.at_these (plan_order s best.plan best.in_order)

order_rises : (s : ℕ) (ts : List ℕ) → InOrder s ts → IsRising s ts
order_rises s [] order = tt
order_rises s (t ∷ ts) order = (order.0, order_rises t ts order.1.1)

-- One step: what the bounds after a moment cover, other bounds cover too.

-- each entry of fs lasts, by its end, until what it carries from t on; or it carries no more than in es from s on, and after
-- each moment from t on its bound is no lower
abbrev Serves : List Entry → List Entry → ℕ → ℕ → Type 0
Serves es fs s t = (i p : ℕ) → t ≤ p → (carried fs t i ≤ end_of fs i) ⊎ ((carried fs t i ≤ carried es s i) × (bound es (end_of es) (Some p) i ≤ bound fs (end_of fs) (Some p) i))

covers_less : (margin : ℕ) (next : Option ℕ) (need less end : ℕ) → less ≤ need → Covers margin next need end → Covers margin next less end
covers_less margin None need less end h c = omega arith
covers_less margin (Some next) need less end h c = elim c [ inl lasts ↦ inl (omega arith) | inr granted ↦ inr granted ]

served :
    (es fs : List Entry) (s t : ℕ) → Serves es fs s t → (margin p : ℕ) (next : Option ℕ) → t ≤ p → IsSafe es margin s (bound es (end_of es) (Some p)) next →
    IsSafe fs margin t (bound fs (end_of fs) (Some p)) next
served es fs s t serves margin p next from safe i =
    let old = bound es (end_of es) (Some p) i in
    let new = bound fs (end_of fs) (Some p) i in
    elim (serves i p from) [
      | inl lasts ↦ let up : end_of fs i ≤ new = end_below_bound fs (end_of fs) (Some p) i in covers_need margin next (carried fs t i) new (omega arith)
      | inr more ↦ covers_more margin next (carried fs t i) old new more.1 (covers_less margin next (carried es s i) (carried fs t i) old more.0 (safe i))
    ]

still_timely :
    (es fs : List Entry) (s t : ℕ) → Serves es fs s t → (margin : ℕ) (ts : List ℕ) (p : ℕ) → t ≤ p → IsRising p ts → AllTimely es margin s (end_of es) (Some p) ts →
    AllTimely fs margin t (end_of fs) (Some p) ts
still_timely es fs s t serves margin [] p from rising timely = served es fs s t serves margin p None from timely
still_timely es fs s t serves margin (u ∷ us) p from rising timely =
    let l : p ≤ u = rising.0 in
    (served es fs s t serves margin p (Some u) from timely.0, still_timely es fs s t serves margin us u (omega arith) rising.1 timely.1)

-- where no pair is Unkeepable, a wake-up at once comes in time
safe_now : (h : Forest) (t : ℕ) → AllKeepable h t (end_of h.entries) → IsSafe h.entries h.margin t (bound h.entries (end_of h.entries) None) (Some t)
unfolding bound latest_end
safe_now h t keepable i =
    elim (cases_lt (end_of h.entries i) (carried h.entries t i)) [
      | inl short ↦ inr ((can_be_led h t (end_of h.entries) keepable i short).room)
      | inr lasts ↦ inl lasts
    ]

-- so where moments after t come in time, a least plan has no more than one more
at_most_one_more :
    (h : Forest) → IsForest h → (t : ℕ) (ts us : List ℕ) → AllKeepable h t (end_of h.entries) → t ≤ LAST → InOrder t ts → AllTimely h.entries h.margin t (end_of h.entries) (Some t) ts →
    IsPlanOf h t us → length us ≤ length (t ∷ ts)
at_most_one_more h forest t ts us keepable late order timely best =
    let es = h.entries in
    let ends = end_of es in
    let plan = with_asks es h.margin t ends (t ∷ ts) in
    let same : moments plan ≡ t ∷ ts = moments_with_asks es h.margin t ends (t ∷ ts) in
    let whole : InOrder t (t ∷ ts) = (omega arith, (late, order)) in
    let keeps = timely_keeps h forest t ends (t ∷ ts) (order_rises t (t ∷ ts) whole) (safe_now h t keepable, timely) in
    let in_order : IsPlan t plan = order_plan t plan (subst (InOrder t) (sym same) whole) in
    let count : length plan ≡ length (t ∷ ts) = sym (length-map plan (λ w. w.at)) ∙ ap length same in
    let least : length us ≤ length plan = best.least plan in_order keeps in
    omega arith

-- Entries that differ in ends and needs, and that are renewable only where they were.

carried_less :
    (es fs : List Entry) (s t i : ℕ) → ((a f : ℕ) → is_over fs a f ≡ is_over es a f) → ((f : ℕ) → (entry_at fs f).need ≤ (entry_at es f).need) → s ≤ t → carried fs t i ≤ carried es s i
carried_less es fs s t i over less later =
    elim (cases_lt (carried es s i) (carried fs t i)) [
      | inr fine ↦ fine
      | inl more ↦ absurd (
          let f = carried_is_of fs t i (carried es s i) more in
          let after : t < (entry_at fs f.0).need = f.2 in
          let past : carried es s i < (entry_at fs f.0).need = f.3 in
          let k = less f.0 in
          let l : (entry_at es f.0).need ≤ carried es s i = carried_at_least es s i f.0 (sym (over i f.0) ∙ f.1) (omega arith) in
          omega arith)
    ]

bound_less :
    (es fs : List Entry) (p i : ℕ) → (entry_at fs i).renewable ≡ true → renewal (entry_at fs i) p ≡ renewal (entry_at es i) p →
    (end_of es i ≤ end_of fs i) ⊎ (end_of es i ≤ renewal (entry_at es i) p) → bound es (end_of es) (Some p) i ≤ bound fs (end_of fs) (Some p) i
unfolding bound latest_end
bound_less es fs p i renewable same ends =
    let old = end_of es i in
    let new = end_of fs i in
    let to = renewal (entry_at es i) p in
    let is : cond (entry_at fs i).renewable (max new (renewal (entry_at fs i) p)) new ≡ max new to = cond-true (entry_at fs i).renewable (max new (renewal (entry_at fs i) p)) new renewable ∙ ap (max new) same in
    let low : old ≤ max new to = elim ends [ inl less ↦ omega arith | inr less ↦ omega arith ] in
    let most : cond (entry_at es i).renewable (max old to) old ≤ max new to = by_test (entry_at es i).renewable old to (max new to) low (omega arith) in
    omega (arith, is) where
      by_test : (b : Bool) (x y m : ℕ) → x ≤ m → y ≤ m → cond b (max x y) x ≤ m
      by_test true x y m p q = omega arith
      by_test false x y m p q = p

renewal_same : (x y : Entry) (p : ℕ) → y.ceiling ≡ x.ceiling → y.step ≡ x.step → renewal y p ≡ renewal x p
unfolding renewal
renewal_same x y p ceiling step = ap (λ c. capped c (p + y.step)) ceiling ∙ ap (λ n. capped x.ceiling (p + n)) step

-- no need is greater after shortening
need_less : (h : Forest) (t i : ℕ) → (entry_at (shorten h t).entries i).need ≤ (entry_at h.entries i).need
need_less h t i =
    elim (cases_lt i (length h.entries)) [
      | inl within ↦ let is = ap (λ (e : Entry). e.need) (shorten_at h t i within) in let l = left_at_most h t i in omega arith
      | inr past ↦ let none = need_past (shorten h t).entries i (let c = shorten_count h t in omega arith) in omega arith
    ]

-- the end of an asked entry comes before its renewal there, or later
ends_before :
    (g h : Forest) (t : ℕ) (next : Option ℕ) → ForestIsAnswered g h t next → (i p : ℕ) → t ≤ p → (end_of g.entries i ≤ end_of h.entries i) ⊎ (end_of g.entries i ≤ renewal (entry_at g.entries i) p)
unfolding end_of
ends_before g h t next answered i p from =
    let es = g.entries in
    let ends : ℕ → ℕ = λ k. (entry_at es k).end in
    let same = asks_wanted es g.margin t ends t next i in
    elim (cases_Bool (is_to_be_asked es g.margin t ends t next i)) [
      | inl wanted ↦
          let later = (asked_end es g.margin t ends t next i wanted).1 in
          let more = renewal_later (entry_at es i) t p from in
          inr (omega arith)
      | inr unwanted ↦ inl (let is : (entry_at h.entries i).end ≡ (entry_at es i).end = ap (λ (e : Entry). e.end) (answered.others i (same ∙ unwanted)) in omega arith)
    ]

-- after answers and shortening, what the moments of g covered they cover still
answered_serves :
    (g h : Forest) (s t : ℕ) (next : Option ℕ) → ForestIsAnswered g h t next → s ≤ t → AllKeepable (shorten h t) t (end_of (shorten h t).entries) → Serves g.entries (shorten h t).entries s t
answered_serves g h s t next answered later keepable i p from =
    let es = g.entries in
    let k = shorten h t in
    let fs = k.entries in
    let cut : (j : ℕ) → entry_at fs j ≡ record (entry_at h.entries j) { need = (entry_at fs j).need } = (unchanged h t).1.0 in
    let each = answered.each in
    let parent : (j : ℕ) → (entry_at fs j).parent ≡ (entry_at es j).parent = λ j. ap (λ (e : Entry). e.parent) (cut j) ∙ ap (λ (e : Entry). e.parent) (each j) in
    let need : (j : ℕ) → (entry_at fs j).need ≤ (entry_at es j).need = λ j. let l = need_less h t j in let e = ap (λ (e : Entry). e.need) (each j) in omega arith in
    let ends : end_of fs i ≡ end_of h.entries i = ap (λ (f : ℕ → ℕ). f i) (shorten_ends h t) in
    elim (cases_lt (end_of fs i) (carried fs t i)) [
      | inr lasts ↦ inl lasts
      | inl short ↦ inr (
        carried_less es fs s t i (over_same es fs parent) need later,
        bound_less es fs p i ((can_be_led k t (end_of fs) keepable i short).renewable)
            (renewal_same (entry_at es i) (entry_at fs i) p (ap (λ (e : Entry). e.ceiling) (cut i) ∙ ap (λ (e : Entry). e.ceiling) (each i)) (ap (λ (e : Entry). e.step) (cut i) ∙ ap (λ (e : Entry). e.step) (each i)))
            (elim (ends_before g h t next answered i p from) [ inl kept ↦ inl (omega arith) | inr less ↦ inr less ]),
      )
    ]

-- so planning anew at t has at most the moments of g that come after t, and one more
no_longer_behind :
    (g h : Forest) (s t : ℕ) (next : Option ℕ) (ts us : List ℕ) → IsForest h → ForestIsAnswered g h t next → s ≤ t → t ≤ LAST → InOrder t ts →
    AllTimely g.entries g.margin s (end_of g.entries) (Some t) ts → IsPlanOf (shorten h t) t us → length us ≤ length (t ∷ ts)
no_longer_behind g h s t next ts us forest answered later late order timely best =
    let k = shorten h t in
    let keepable = shorten_keepable h forest t in
    let margin : g.margin ≡ k.margin = sym (shorten_margin h t ∙ answered.margin) in
    let still = still_timely g.entries k.entries s t (answered_serves g h s t next answered later keepable) g.margin ts t (omega arith) (order_rises t ts order) timely in
    at_most_one_more k (shorten_forest h forest t) t ts us keepable late order (subst (λ m. AllTimely k.entries m t (end_of k.entries) (Some t) ts) margin still) best

answered_no_longer :
    (g h : Forest) (t : ℕ) (ts us : List ℕ) → IsForest g → IsForest h → IsPlanOf g t (t ∷ ts) → ForestIsAnswered g h t (first_of ts) → IsPlanOf (shorten h t) t us → length us ≤ length (t ∷ ts)
answered_no_longer g h t ts us forest is_forest best answered anew =
    let order = best_order g t (t ∷ ts) best in
    no_longer_behind g h t t (first_of ts) ts us is_forest answered (omega arith) order.1.0 order.1.1 (best_timely g forest t (t ∷ ts) best).1 anew

-- A late tick: the moments that t is past are left out.

safe_later :
    (es : List Entry) (margin s : ℕ) (ends : ℕ → ℕ) (u t : ℕ) (next : Option ℕ) → u ≤ t → IsSafe es margin s (bound es ends (Some u)) next → IsSafe es margin s (bound es ends (Some t)) next
unfolding bound latest_end
safe_later es margin s ends u t next h safe i =
    covers_more margin next (carried es s i) (bound es ends (Some u) i) (bound es ends (Some t) i) (by_test (entry_at es i).renewable (ends i) (renewal (entry_at es i) u) (renewal (entry_at es i) t) (renewal_later (entry_at es i) u t h)) (safe i) where
      by_test : (b : Bool) (x y z : ℕ) → y ≤ z → cond b (max x y) x ≤ cond b (max x z) x
      by_test true x y z h = omega arith
      by_test false x y z h = omega arith

-- moments after t, no more than these
record Behind (es : List Entry) (margin s : ℕ) (ends : ℕ → ℕ) (t : ℕ) (ts : List ℕ) : Type 0 where
  rest : List ℕ
  timely : AllTimely es margin s ends (Some t) rest
  order : InOrder t rest
  fewer : length rest ≤ length ts

behind : (es : List Entry) (margin s : ℕ) (ends : ℕ → ℕ) (t : ℕ) (ts : List ℕ) (u : ℕ) → u ≤ t → InOrder u ts → AllTimely es margin s ends (Some u) ts → Behind es margin s ends t ts
behind es margin s ends t [] u h order timely = record { rest = []; timely = safe_later es margin s ends u t None h timely; order = tt; fewer = omega arith }
behind es margin s ends t (w ∷ ws) u h order timely =
    elim (cases_lt t w) [
      | inl after ↦ record { rest = w ∷ ws; timely = (safe_later es margin s ends u t (Some w) h timely.0, timely.1); order = (omega arith, order.1); fewer = omega arith }
      | inr due ↦
          let b = behind es margin s ends t ws w due order.1.1 timely.1 in
          let l = b.fewer in
          record { rest = b.rest; timely = b.timely; order = b.order; fewer = omega arith }
    ]

unanswered_is : (g : Forest) (t : ℕ) → ForestIsAnswered g g t None
unanswered_is g t = record { margin = refl; count = refl; each = λ i. refl; others = λ i _. refl }

-- a tick that is not late keeps the plan
soon_no_longer : (g : Forest) (s t : ℕ) (ts us : List ℕ) → s ≤ t → All (λ u. t ≤ u) ts → IsPlanOf g s ts → IsPlanOf (shorten g t) t us → length us ≤ length ts
soon_no_longer g s t ts us later after_none best anew =
    let stays = tick g s t ts later after_none best in
    let same = ap length (one_least g.entries g.margin t (end_of g.entries) ts us stays.1.1 (subst (λ x. IsPlanOf x t us) stays.0 anew)) in
    omega arith

-- past the last moment there is no plan but that of no wake-ups
plan_past : (t : ℕ) (ws : List Wake) → LAST < t → IsPlan t ws → length (moments ws) ≡ 0
plan_past t [] past plan = refl
plan_past t (w ∷ ws) past plan = absurd (let l : t ≤ w.at = plan.0 in let k : w.at ≤ LAST = plan.1.0 in omega arith)

tick_no_longer : (g : Forest) (s t : ℕ) (ts us : List ℕ) → IsForest g → s ≤ t → IsPlanOf g s ts → IsPlanOf (shorten g t) t us → length us ≤ length ts
tick_no_longer g s t [] us forest later best anew = soon_no_longer g s t [] us later (λ k d h. absurd (omega arith)) best anew
tick_no_longer g s t (w ∷ ws) us forest later best anew =
    elim (cases_lt w t) [
      | inr soon ↦ soon_no_longer g s t (w ∷ ws) us later (let from = (best_first g s w ws best).1 in λ k d h. let l = from k d h in omega arith) best anew
      | inl late ↦ elim (cases_lt LAST t) [
        | inl past ↦ let none = plan_past t anew.plan past anew.in_order in let same = ap length anew.at_these in omega arith
        | inr within ↦
            let order = best_order g s (w ∷ ws) best in
            let b = behind g.entries g.margin s (end_of g.entries) t ws w (omega arith) order.1.1 (best_timely g forest s (w ∷ ws) best).1 in
            let l = b.fewer in
            let most = no_longer_behind g g s t None b.rest us forest (unanswered_is g t) later within b.order b.timely anew in
            omega arith
      ]
    ]

pub no_longer : NoLongerLaw
no_longer = (tick_no_longer, answered_no_longer)
