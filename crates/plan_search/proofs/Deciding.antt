-- The decision: what follows for every plan from the forces, from a list of them that is too long, and from a pair that is
-- Unkeepable; for `shortfall` and `plan`.
use Rattle.std.proofs.Common.{◌≡◌, ℕ, ◌≤◌, List, [], ◌∷◌, Option, Some, None, length, refl, suc, ap, subst, arith, ◌-◌, ◌*◌}
use Rattle.std.specs.Option.{MatchOption}
use Rattle.plan_forest.specs.{Forest.Forest, Forest.end_of, Push.IsForest}
use Rattle.plan_rule.specs.{Asks.with_asks, Requests.requests, Unkeepable.AllKeepable, Unkeepable.Unkeepable, declared.force.Force.Force, declared.run.Run.Run, Runs.all_wakes, Runs.moments_of}
use Rattle.plan_rule.proofs.{Existence.there_is_one, FewestRequests.fewest_requests, Keeping.unkeepable, Schedule.schedule_is_best}
use Rattle.plan_schedule.specs.Forces.{AreForces}
use Rattle.plan_schedule.proofs.{Bridge.forces_schedule, Forces.forces_are_best}
use Rattle.plan_search.specs.{code.Collecting.ListIsOverlong, code.Collecting.RunsAreWhole, Decides.AreBest, Decides.NoneKeeps, Decides.PlanIsTooLong, Decides.SomeKeeps}

pub none_keeps : (g : Forest) (s i f : ℕ) → Unkeepable g.entries g.margin s (end_of g.entries) i f → NoneKeeps g s
none_keeps g s i f pair = λ plan in_order keeps. unkeepable g.entries g.margin s (end_of g.entries) i f pair plan in_order keeps

pub some_keeps : (g : Forest) (s : ℕ) → IsForest g → AllKeepable g s (end_of g.entries) → SomeKeeps g s
some_keeps g s forest keepable =
    let ts = there_is_one g s (end_of g.entries) forest keepable in
    let least = (schedule_is_best g s (end_of g.entries) forest keepable ts.0 ts.1).1.1.1 in
    (least.plan, (least.in_order, least.kept))

pub length_moments : (xs : List Force) → length (moments_of xs) ≡ length xs
length_moments [] = refl
length_moments (x ∷ xs) = ap (λ k. suc k) (length_moments xs)

pub best_of :
    (g : Forest) (s : ℕ) → IsForest g → AllKeepable g s (end_of g.entries) → (comes : List Force → Type 0) → ((xs : List Force) → comes xs → AreForces g.entries g.margin s (end_of g.entries) None xs) →
    (most : ℕ) → most ≤ 2 * length g.entries - 1 → (rs : List Run) → RunsAreWhole comes most rs → AreBest g s rs
best_of g s forest keepable comes tells most few rs whole =
    let es = g.entries in
    let forces = tells (all_wakes rs) whole.all in
    let best = schedule_is_best g s (end_of es) forest keepable (moments_of (all_wakes rs)) (forces_schedule es g.margin s (end_of es) None (all_wakes rs) forces) in
    let runs = whole.few_runs in
    record {
      runs = whole.runs;
      forces = forces;
      least = best.1.1.1;
      kept = best.1.1.0;
      fewest = λ plan in_order keeps same.
          subst (λ ts. requests (with_asks es g.margin s (end_of es) ts) ≤ requests plan) same (fewest_requests es g.margin s (end_of es) plan in_order keeps);
      longest = whole.longest;
      few = whole.few;
      few_runs = omega arith;
    }

pub too_long :
    (g : Forest) (s : ℕ) → IsForest g → AllKeepable g s (end_of g.entries) → (comes : List Force → Type 0) → ((xs : List Force) → AreForces g.entries g.margin s (end_of g.entries) None xs → comes xs) →
    ListIsOverlong comes → PlanIsTooLong g s
too_long g s forest keepable comes tells over =
    let es = g.entries in
    let found = forces_are_best g s forest keepable in
    let long = over found.0 (tells found.0 found.1.0) in
    let least = found.1.1.1.1.1 in
    let same = length_moments found.0 in
    record {
      some = some_keeps g s forest keepable;
      long = λ plan in_order keeps. let l : length (moments_of found.0) ≤ length plan = least.least plan in_order keeps in omega (arith, long, same);
    }

-- what an option means, by what its parts mean
pub each_case : {X : Type 0} (o : Option X) (A B : Type 0) (P Q : X → Type 0) → (A → B) → ((x : X) → P x → Q x) → MatchOption o A P → MatchOption o B Q
each_case None A B P Q none some h = none h
each_case (Some x) A B P Q none some h = some x h
