-- Laws: that there is one list of forces, and that its moments are least and latest.
use Rattle.std.specs.Prelude.{◌≡◌, ℕ, List, None}
use Rattle.plan_forest.specs.{Forest.Forest, Forest.end_of, Push.IsForest}
use Rattle.plan_rule.specs.{Unkeepable.AllKeepable, Least.IsLeastAndLatest, Schedule.RisesStrictly, declared.force.Force.Force, Runs.moments_of}
use Rattle.plan_schedule.specs.Forces.{AreForced, AreForces, AreLowest}

-- where no pair is Unkeepable, there is a list of forces, and only one; each of its wake-ups is Forced by the pair that it
-- names, and its moments rise strictly from s on and are least and latest
abbrev pub ForcesLaw : Type 0
ForcesLaw =
    (g : Forest) (s : ℕ) → IsForest g → AllKeepable g s (end_of g.entries) →
    (xs : List Force)
    × (AreForces g.entries g.margin s (end_of g.entries) None xs
    × (((ys : List Force) → AreForces g.entries g.margin s (end_of g.entries) None ys → ys ≡ xs)
    × (AreForced g.entries g.margin s (end_of g.entries) None xs
    × (RisesStrictly s (moments_of xs) × IsLeastAndLatest g.entries g.margin s (end_of g.entries) (moments_of xs)))))

-- and each of its wake-ups has its force: the lowest entry that is Forced there, and the from of what that entry carries
abbrev pub LowestLaw : Type 0
LowestLaw =
    (g : Forest) (s : ℕ) → IsForest g → AllKeepable g s (end_of g.entries) → (xs : List Force) → AreForces g.entries g.margin s (end_of g.entries) None xs →
    AreLowest g.entries g.margin s (end_of g.entries) None xs
