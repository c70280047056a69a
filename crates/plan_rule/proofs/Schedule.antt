-- The law of the schedule: where no pair is Unkeepable, its moments rise strictly, are each forced, are kept with their
-- Asks, and are least and latest.
use Rattle.std.proofs.Common.{◌≡◌, ℕ, ◌+◌, ◌<◌, ◌≤◌, List, [], ◌∷◌, Option, Some, None, refl, sym, ap, subst, arith}
use Rattle.base_moment.specs.declared.moment.TheConstants.{LAST}
use Rattle.plan_forest.specs.{declared.entry.Entry.Entry, Forest.Forest, Push.IsForest}
use Rattle.plan_rule.specs.{Asks.asking, Asks.first_of, Asks.with_asks, Ends.ends_after_wake_up, Forced.AllForced, Laws.ScheduleLaw, Unkeepable.AllKeepable, Least.IsLeastAndLatest, Plans.IsPlan, Plans.moments}
use Rattle.plan_rule.specs.{Schedule.IsSchedule, Schedule.RisesStrictly}
use Rattle.plan_rule.proofs.{Keeping.IsRising, Keeping.forced_is_least, Next.Comes, Next.next_comes, Timely.AllTimely, Timely.timely_keeps}

-- the moments of a schedule come in time
pub schedule_timely :
    (g : Forest) → IsForest g → (s : ℕ) (ends : ℕ → ℕ) → AllKeepable g s ends → (ts : List ℕ) (prev : Option ℕ) → IsSchedule g.entries g.margin s ends prev ts →
    AllTimely g.entries g.margin s ends prev ts
schedule_timely g forest s ends keepable [] prev schedule = schedule
schedule_timely g forest s ends keepable (t ∷ ts) prev schedule =
    ((next_comes g forest s ends keepable prev t schedule.0).covers, schedule_timely g forest s ends keepable ts (Some t) schedule.1)

schedule_forced :
    (g : Forest) → IsForest g → (s : ℕ) (ends : ℕ → ℕ) → AllKeepable g s ends → (ts : List ℕ) (prev : Option ℕ) → IsSchedule g.entries g.margin s ends prev ts →
    AllForced g.entries g.margin s ends prev ts
schedule_forced g forest s ends keepable [] prev schedule = tt
schedule_forced g forest s ends keepable (t ∷ ts) prev schedule =
    ((next_comes g forest s ends keepable prev t schedule.0).forced, schedule_forced g forest s ends keepable ts (Some t) schedule.1)

schedule_rises :
    (g : Forest) → IsForest g → (s : ℕ) (ends : ℕ → ℕ) → AllKeepable g s ends → (ts : List ℕ) (prev : Option ℕ) (low : ℕ) →
    ((t : ℕ) → Comes g s ends prev t → low ≤ t) → IsSchedule g.entries g.margin s ends prev ts → RisesStrictly low ts
schedule_rises g forest s ends keepable [] prev low from schedule = tt
schedule_rises g forest s ends keepable (t ∷ ts) prev low from schedule = (
  from t (next_comes g forest s ends keepable prev t schedule.0),
  schedule_rises g forest s ends keepable ts (Some t) (t + 1) (λ v next. let l : t < v = next.behind t refl in omega arith) schedule.1,
)

schedule_in_order :
    (g : Forest) → IsForest g → (s : ℕ) (ends : ℕ → ℕ) → AllKeepable g s ends → (ts : List ℕ) (prev : Option ℕ) (from low : ℕ) (e : ℕ → ℕ) → from ≤ low →
    RisesStrictly low ts → IsSchedule g.entries g.margin s ends prev ts → IsPlan from (with_asks g.entries g.margin s e ts)
unfolding with_asks
schedule_in_order g forest s ends keepable [] prev from low e le rises schedule = tt
schedule_in_order g forest s ends keepable (t ∷ ts) prev from low e le rises schedule =
    let start : low ≤ t = rises.0 in
    let end : t < LAST = (next_comes g forest s ends keepable prev t schedule.0).within in (
      omega arith,
      (omega arith, schedule_in_order g forest s ends keepable ts (Some t) t (t + 1) (ends_after_wake_up g.entries g.margin e (asking g.entries g.margin s e t (first_of ts))) (omega arith) rises.1 schedule.1),
    )

-- the Asks are asked at the moments that are given
pub moments_with_asks : (es : List Entry) (margin s : ℕ) (ts : List ℕ) (e : ℕ → ℕ) → moments (with_asks es margin s e ts) ≡ ts
unfolding with_asks
moments_with_asks es margin s [] e = refl
moments_with_asks es margin s (t ∷ ts) e = ap (λ us. t ∷ us) (moments_with_asks es margin s ts (ends_after_wake_up es margin e (asking es margin s e t (first_of ts))))

pub rising_strictly : (s : ℕ) (ts : List ℕ) → RisesStrictly s ts → IsRising s ts
rising_strictly s [] rises = tt
rising_strictly s (t ∷ ts) rises = (rises.0, weaker t ts rises.1) where
  weaker : (u : ℕ) (us : List ℕ) → RisesStrictly (u + 1) us → IsRising u us
  weaker u [] r = tt
  weaker u (v ∷ vs) r = let l : u + 1 ≤ v = r.0 in (omega arith, weaker v vs r.1)

pub schedule_is_best : ScheduleLaw
schedule_is_best g s ends forest keepable ts schedule =
    let es = g.entries in
    let margin = g.margin in
    let plan = with_asks es margin s ends ts in
    let same : moments plan ≡ ts = moments_with_asks es margin s ts ends in
    let rises = schedule_rises g forest s ends keepable ts None s (λ t next. next.late) schedule in
    let forced = schedule_forced g forest s ends keepable ts None schedule in
    let kept = timely_keeps g forest s ends ts (rising_strictly s ts rises) (schedule_timely g forest s ends keepable ts None schedule) in
    let in_order = schedule_in_order g forest s ends keepable ts None s s ends (omega arith) rises schedule in
    let best = forced_is_least es margin s ends plan in_order kept (subst (AllForced es margin s ends None) (sym same) forced) in
    (rises, (forced, (kept, subst (IsLeastAndLatest es margin s ends) same best)))
