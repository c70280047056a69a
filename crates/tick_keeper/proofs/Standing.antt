-- Plans that stand: until the first moment, and after a round that was answered by the rule. For the laws of plans.
use Rattle.std.proofs.Common.{◌≡◌, ◌==◌, ℕ, ◌<◌, ◌≤◌, ◌++◌, cond, List, [], ◌∷◌, Option, length, refl, sym, ap, ◌∙◌, subst, arith, inl, inr}
use Rattle.std.proofs.lemmas.{List.append-nil, List.Elements.All-cons, List.Elements.All-nil}
use Rattle.std.proofs.lemmas.Bool.{cases_Bool, cond-true, cond-false}
use Rattle.std.proofs.Math.Path.{fun_ext}
use Rattle.std.specs.List.{All, list_any}
use Rattle.plan_forest.specs.{declared.entry.Entry.Entry, Push.IsForest, Renewal.renewal, Renewal.renewed}
use Rattle.plan_forest.specs.Forest.{Forest, end_of, entry_at}
use Rattle.plan_forest.proofs.Placed.{parents_first}
use Rattle.plan_rule.specs.{declared.wake.Wake.Wake, Ends.ends_after_wake_up, Ends.is_asked, Least.IsLeastAndLatest, Plans.IsPlan, Plans.moments, Unkeepable.AllKeepable}
use Rattle.plan_rule.specs.Asks.{asking, asks, first_of, is_to_be_asked}
use Rattle.plan_rule.proofs.{Asking.asks_wanted, Enough.enough, Keeping.one_least, Keeping.unkeepable, LaterStart.later_start, Tail.tail, Covering.after_unwanted, Covering.after_wanted}
use Rattle.tick_keeper.specs.{Replan.IsPlanOf, Shorten.shorten}
use Rattle.tick_keeper.specs.LawsOfPlans.{IsAnsweredByRule, KeptPlanLaw, SomeoneLaw, TailKeptLaw, TickLaw}
use Rattle.tick_keeper.proofs.{Alike.Alike, Alike.best_alike, Kept.keepable}

-- where there is a least and latest plan, some plan keeps, and so no pair is Unkeepable
pub best_keepable : (g : Forest) (t : ℕ) (ts : List ℕ) → IsPlanOf g t ts → AllKeepable g t (end_of g.entries)
best_keepable g t ts best entry needed pair = unkeepable g.entries g.margin t (end_of g.entries) entry needed pair best.plan best.in_order best.kept

pub tick : TickLaw
tick g s t ts later after_none best =
    let now = later_start g.entries g.margin s t (end_of g.entries) ts later after_none best in
    let same = keepable g t (best_keepable g t ts now) in
    (same.0, (same.1, now))

pub kept_plan : KeptPlanLaw
kept_plan s t in_force later after_none =
    let stays = tick s.forest s.last t s.to_come later after_none in_force.0 in
    record {
      moments = s.to_come;
      best = subst (λ g. IsPlanOf g t s.to_come) (sym stays.0) stays.1.1;
      few = in_force.1;
      is = ap (λ g. record s { forest = g; last = t }) (sym stays.0)
          ∙ ap (λ ps. record s { forest = shorten s.forest t; last = t; shortened = ps }) (sym (ap (λ ps. s.shortened ++ ps) stays.1.0 ∙ append-nil s.shortened));
    }

-- none of a plan's moments comes before its start
all_from : (s : ℕ) (ws : List Wake) → IsPlan s ws → All (λ u. s ≤ u) (moments ws)
all_from s ws plan = from s ws plan (omega arith) where
  from : (low : ℕ) (ws : List Wake) → IsPlan low ws → s ≤ low → All (λ u. s ≤ u) (moments ws)
  from low [] plan h = All-nil (λ u. s ≤ u)
  from low (w ∷ ws) plan h = let l : low ≤ w.at = plan.0 in All-cons (λ u. s ≤ u) w.at (moments ws) (omega arith) (from w.at ws plan.1.1 (omega arith))

-- nor before its first moment
from_first : (s t : ℕ) (ts : List ℕ) (ws : List Wake) → IsPlan s ws → moments ws ≡ t ∷ ts → (s ≤ t) × All (λ u. t ≤ u) (t ∷ ts)
from_first s t ts [] plan is = absurd cc
from_first s t ts (w ∷ ws) plan is =
    let first : w.at ≡ t = cc in
    let l : s ≤ w.at = plan.0 in
    (omega arith, subst (All (λ u. t ≤ u)) is (subst (λ n. All (λ u. n ≤ u) (w.at ∷ moments ws)) first (all_from w.at (w ∷ ws) (omega arith, plan.1))))

pub best_first : (g : Forest) (s t : ℕ) (ts : List ℕ) → IsPlanOf g s (t ∷ ts) → (s ≤ t) × All (λ u. t ≤ u) (t ∷ ts)
best_first g s t ts best = from_first s t ts best.plan best.in_order best.at_these

pub best_from : (g : Forest) (s : ℕ) (ts : List ℕ) → IsPlanOf g s ts → All (λ u. s ≤ u) ts
best_from g s ts best = subst (All (λ u. s ≤ u)) best.at_these (all_from s best.plan best.in_order)

-- a round that was answered by the rule leaves the ends that its Asks give
pub after_answers : (g h : Forest) (t : ℕ) (next : Option ℕ) → IsAnsweredByRule g h t next → ends_after_wake_up g.entries g.margin (end_of g.entries) (asking g.entries g.margin t (end_of g.entries) t next) ≡ end_of h.entries
unfolding end_of
after_answers g h t next answered = fun_ext λ i.
    let es = g.entries in
    let ends : ℕ → ℕ = λ k. (entry_at es k).end in
    let asked = is_asked (asking es g.margin t ends t next) i in
    let is : (entry_at h.entries i).end ≡ cond asked (renewal (entry_at es i) t) (ends i) = ap (λ (e : Entry). e.end) (answered.each i) in
    let same = asks_wanted es g.margin t ends t next i in
    elim (cases_Bool (is_to_be_asked es g.margin t ends t next i)) [
      | inl wanted ↦ after_wanted es g.margin t ends t next i wanted ∙ sym (is ∙ cond-true asked (renewal (entry_at es i) t) (ends i) (same ∙ wanted))
      | inr unwanted ↦ after_unwanted es g.margin t ends t next i unwanted ∙ sym (is ∙ cond-false asked (renewal (entry_at es i) t) (ends i) (same ∙ unwanted))
    ]

pub answered_alike : (g h : Forest) → IsForest g → (t : ℕ) (next : Option ℕ) → IsAnsweredByRule g h t next → Alike g.entries h.entries
answered_alike g h forest t next answered = record {
  first = parents_first g forest;
  parent = λ i. ap (λ (e : Entry). e.parent) (answered.each i);
  renewable = λ i. ap (λ (e : Entry). e.renewable) (answered.each i);
  step = λ i. ap (λ (e : Entry). e.step) (answered.each i);
  ceiling = λ i. ap (λ (e : Entry). e.ceiling) (answered.each i);
}

pub tail_kept : TailKeptLaw
tail_kept g h t ts forest best answered =
    let rest = tail enough g t t (end_of g.entries) ts forest best in
    let told : IsLeastAndLatest g.entries g.margin t (end_of h.entries) ts = subst (λ (e : ℕ → ℕ). IsLeastAndLatest g.entries g.margin t e ts) (after_answers g h t (first_of ts) answered) rest in
    let alike = answered_alike g h forest t (first_of ts) answered in
    let now : IsPlanOf h t ts = subst (λ margin. IsLeastAndLatest h.entries margin t (end_of h.entries) ts) (sym answered.margin)
    (best_alike g.entries h.entries alike (λ i. ap (λ (e : Entry). e.need) (answered.each i)) g.margin t (end_of h.entries) ts told) in
    let same = keepable h t (best_keepable h t ts now) in
    (same.0, (same.1, now))

-- a wake-up that asks nobody leaves the ends
after_nobody : (es : List Entry) (margin : ℕ) (ends : ℕ → ℕ) (w : Wake) → w.asked ≡ [] → ends_after_wake_up es margin ends w ≡ ends
unfolding ends_after_wake_up is_asked
after_nobody es margin ends w nobody = fun_ext λ i. ap (λ (asked : List ℕ). cond (list_any (λ j. j == i) asked) (renewed es margin ends w.at i) (ends i)) nobody

some_or_none : (xs : List ℕ) (P : Type 0) → (xs ≡ [] → P) → (0 < length xs → P) → P
some_or_none [] P none some = none refl
some_or_none (x ∷ xs) P none some = some (omega arith)

pub someone : SomeoneLaw
someone g s t ts forest best =
    let es = g.entries in
    let ends = end_of es in
    let asked = asks es g.margin s ends t (first_of ts) in
    some_or_none asked (0 < length asked)
    (λ nobody.
    let first = best_first g s t ts best in
    let whole = later_start es g.margin s t ends (t ∷ ts) first.0 first.1 best in
    let rest = tail enough g s t ends ts forest best in
    let left : IsLeastAndLatest es g.margin t ends ts = subst (λ (e : ℕ → ℕ). IsLeastAndLatest es g.margin t e ts) (after_nobody es g.margin ends (asking es g.margin s ends t (first_of ts)) nobody) rest in
    let same = ap length (one_least es g.margin t ends ts (t ∷ ts) left whole) in
    absurd (omega arith))
    (λ some. some)
