-- What planning anew made: a state that is planned anew, and parts of a keeper that belong together.
use Rattle.std.proofs.Common.{◌≡◌, ◌∙◌, ℕ, suc, ◌<◌, ◌≤◌, ◌++◌, List, [], ◌∷◌, Option, Some, None, length, refl, sym, ap, subst, arith}
use Rattle.base_moment.specs.declared.moment.TheConstants.{LAST}
use Rattle.plan_forest.specs.{declared.entry.Entry.Entry, Carried.carried, Forest.Forest, Forest.end_of, Push.IsForest}
use Rattle.plan_forest.proofs.Carrying.{carried_at_least, carried_is_of}
use Rattle.plan_rule.specs.{Forced.bound, declared.force.Force.Force, Runs.moments_of}
use Rattle.plan_schedule.specs.Forces.{AreForces}
use Rattle.plan_search.specs.{Decides.IsBestPlan, Planned.Planned, Planned.to_come}
use Rattle.tick_keeper.specs.{declared.round.OpenRound.OpenRound, declared.shortened.ShortNeed.ShortNeed, InForce.AllForcedAs, Replan.IsPlanOf, Replan.Replan, Shorten.pairs, Shorten.shorten, State.CoreState, State.Round}
use Rattle.tick_keeper.specs.{States.IsState, States.RoundIsOpened}
use Rattle.tick_keeper.specs.code.Keeping.{IsKeeper, seen_round, shown_round, waited_for}

pub count_moments : (xs : List Force) → length (moments_of xs) ≡ length xs
count_moments [] = refl
count_moments (x ∷ xs) = ap (λ n. suc n) (count_moments xs)

-- the next wake-up is Forced as it is named
forces_force : (es : List Entry) (margin s : ℕ) (ends : ℕ → ℕ) (prev : Option ℕ) (xs : List Force) → AreForces es margin s ends prev xs → AllForcedAs es margin s ends prev xs
forces_force es margin s ends prev [] forces = tt
forces_force es margin s ends prev (x ∷ xs) forces =
    let f = forces.0 in
    let short = f.short in
    let moment = f.moment in
    let need = f.from.need in
    let some = carried_is_of es s x.entry (bound es ends prev x.entry) short in
    let later : s < carried es s x.entry = forces_later es s x.entry (bound es ends prev x.entry) short in (
      record { over = f.from.over; later = omega arith; short = omega arith; due = omega arith },
      forces_force es margin s ends (Some x.at) xs forces.1,
    ) where
      forces_later : (es : List Entry) (s i b : ℕ) → b < carried es s i → s < carried es s i
      forces_later es s i b short =
          let f = carried_is_of es s i b short in
          let most = carried_at_least es s i f.0 f.1 f.2 in
          omega (arith, f.2)

-- the state that planning anew made
pub made :
    (s : CoreState) (t : ℕ) (h : Forest) (p : Planned) (list : List ShortNeed) → h ≡ shorten s.forest t → list ≡ s.shortened ++ pairs s.forest t → IsBestPlan h t p →
    Replan s t (record { forest = h; last = t; to_come = moments_of (to_come p); round = s.round; shortened = list })
made s t h p list is noted kept = record {
  moments = moments_of (to_come p);
  best = subst (λ g. IsPlanOf g t (moments_of (to_come p))) is kept.best.least;
  few = (let l = count_moments (to_come p) in let k = kept.best.few in omega arith);
  is = ap (λ g. record { forest = g; last = t; to_come = moments_of (to_come p); round = s.round; shortened = list }) is
      ∙ ap (λ xs. record { forest = shorten s.forest t; last = t; to_come = moments_of (to_come p); round = s.round; shortened = xs }) noted;
}

pub made_keeper : (h : Forest) (t : ℕ) (p : Planned) → IsForest h → t ≤ LAST → IsBestPlan h t p → IsKeeper h t p None
made_keeper h t p forest late kept = record {
  forest = forest;
  late = late;
  carried = kept.carried;
  start = (let e = kept.start in omega arith);
  few = kept.best.few;
  best = λ _. kept.best.least;
  forced = λ _. forces_force h.entries h.margin t (end_of h.entries) None (to_come p) kept.best.forces;
  open_round = λ r is. absurd cc;
}

pub none_seen : (round : Option OpenRound) → seen_round round ≡ None → round ≡ None
none_seen None e = refl
none_seen (Some r) e = absurd cc

-- what callers see of the parts of a keeper is a state
pub keeper_state : (h : Forest) (last : ℕ) (p : Planned) (round : Option OpenRound) (list : List ShortNeed) → IsKeeper h last p round →
    IsState (record { forest = h; last = last; to_come = moments_of (to_come p); round = seen_round round; shortened = list })
keeper_state h last p None list k = record {
  forest = k.forest;
  last = k.late;
  open_since = λ round is. absurd cc;
  waits = λ round is nobody. absurd cc;
  opened = λ round is. absurd cc;
  sound = λ _. (k.best refl, (let l = count_moments (to_come p) in let n = k.few in omega arith));
}
keeper_state h last p (Some r) list k =
    let o = k.open_round r refl in
    record {
      forest = k.forest;
      last = k.late;
      open_since = λ round is. (let same : shown_round r ≡ round = cc in ap (λ (x : Round). x.at) (sym same) ∙ o.at);
      waits = λ round is nobody.
          let same : shown_round r ≡ round = cc in
          let none : length (waited_for r.waiting.items) ≡ 0 = ap (λ (x : Round). length x.unanswered) same ∙ ap length nobody in
          let left = o.left in
          let some = o.some in
          absurd (omega arith);
      opened = λ round is. (let same : shown_round r ≡ round = cc in subst (RoundIsOpened h (moments_of (to_come p))) same o.opened);
      sound = λ closed. absurd cc;
    }
