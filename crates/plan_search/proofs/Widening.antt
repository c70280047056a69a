-- Widening: what a plan says of the number of wake-ups that are enough, and the turns of the bisection; for `widest_margin`.
use Rattle.std.proofs.Common.{◌≡◌, ◌∙◌, ℕ, ◌-◌, ◌<◌, ◌≤◌, MatchOption, None, Option, Some, length, sym, ap, arith, inl, inr, subst}
use Rattle.std.proofs.lemmas.{Bool.cases_lt, List.length-map}
use Rattle.plan_forest.specs.{Forest.Forest, Forest.end_of, Margins.IsMostMargin, Push.IsForest}
use Rattle.plan_forest.proofs.Margins.{forest_with, less_allowed}
use Rattle.plan_rule.proofs.Margin.{margin}
use Rattle.plan_search.specs.{declared.widest.Widest.Widest, code.Widening.WidestIsBetween, Decides.IsBestPlan, Planned.Planned, Planned.to_come, Widest.IsEnough, Widest.IsFewest, Widest.KeepsWithin}
use Rattle.plan_search.proofs.Deciding.{length_moments}

-- ---- what a decision says

-- a kept decision has the fewest wake-ups
pub kept_fewest : (g : Forest) (s : ℕ) (p : Planned) → IsBestPlan g s p → IsFewest g s (length (to_come p))
kept_fewest g s p kept =
    let best = kept.best.least in
    let same = length_moments (to_come p) in
    let as_many : length best.plan ≡ length (to_come p) = sym (length-map best.plan (λ w. w.at)) ∙ ap length best.at_these ∙ same in
    record {
      some = (best.plan, (best.in_order, (best.kept, omega (arith, as_many))));
      least = λ plan in_order keeps. (let l = best.least plan in_order keeps in omega (arith, same, l));
    }

-- more than so many are no plan within so many
pub not_within : (g : Forest) (s most n : ℕ) → IsFewest g s n → most < n → KeepsWithin g s most → ⊥
not_within g s most n fewest many within =
    let l = fewest.least within.0 within.1.0 within.1.1.0 in
    let few = within.1.1.1 in
    omega (arith, l, few, many)

-- what is told of a plan's number of wake-ups
pub told_fewest : (g : Forest) (s most n : ℕ) (p : Planned) (found : Option ℕ) → IsBestPlan g s p → n ≡ length (to_come p) → MatchOption found (most < n) (λ k. (k ≡ n) × (k ≤ most)) →
    MatchOption found (KeepsWithin g s most → ⊥) (λ k. (k ≤ most) × IsFewest g s k)
told_fewest g s most n p None kept count many = not_within g s most n (subst (IsFewest g s) (sym count) (kept_fewest g s p kept)) many
told_fewest g s most n p (Some k) kept count is = (is.1, subst (IsFewest g s) (sym (is.0 ∙ count)) (kept_fewest g s p kept))

-- ---- the turns

-- with a smaller margin no more wake-ups are wanted
pub enough_less : (g : Forest) → IsForest g → (s most more less : ℕ) → 0 < less → less ≤ more → IsEnough g s most more → IsEnough g s most less
enough_less g forest s most more less above small enough =
    let plan = enough.keeps in
    let other = margin (record g { margin = more }) less s (end_of g.entries) plan.0 (forest_with g more forest enough.allowed) above small plan.1.0 plan.1.1.0 in
    let few = plan.1.1.1 in
    let as_many : length other.0 ≡ length plan.0 = sym (length-map other.0 (λ w. w.at)) ∙ ap length other.1.1.0 ∙ length-map plan.0 (λ w. w.at) in
    record { allowed = less_allowed g.entries more less above small enough.allowed; keeps = (other.0, (other.1.0, (other.1.1.1, omega arith))) }

abbrev nothing : Widest
nothing = record { margin = 0; wakes = 0 }

pub between_first : (g : Forest) (s most high : ℕ) → IsMostMargin g.entries high → WidestIsBetween g s most nothing high
between_first g s most high greatest =
    record {
      ordered = omega arith;
      enough = λ h. absurd (omega arith);
      fewest = λ h. absurd (omega arith);
      allowed = λ h. greatest.allowed;
      none_over = λ margin enough. greatest.most margin enough.allowed;
    }

pub between_down :
    (g : Forest) → IsForest g → (s most : ℕ) (low : Widest) (high middle : ℕ) → WidestIsBetween g s most low high → low.margin < middle → middle ≤ high →
    (KeepsWithin (record g { margin = middle }) s most → ⊥) → WidestIsBetween g s most low (middle - 1)
between_down g forest s most low high middle between above small none =
    record {
      ordered = omega arith;
      enough = between.enough;
      fewest = between.fewest;
      allowed = λ h. less_allowed g.entries high (middle - 1) h (omega arith) (between.allowed (omega arith));
      none_over = λ m enough. elim (cases_lt m middle) [
        | inl below ↦ omega arith
        | inr over ↦ absurd (none (enough_less g forest s most m middle (omega arith) over enough).keeps)
      ];
    }
