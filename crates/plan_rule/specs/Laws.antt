-- Laws: what no plan can do, and what a least one is. Each is the contract of a public function without a body.
use Rattle.std.specs.Prelude.{◌≡◌, ◌<◌, ◌≤◌, ℕ, List, None, length, slice_index}
use Rattle.plan_forest.specs.{declared.entry.Entry.Entry, Forest.Forest, Push.IsForest}
use Rattle.plan_rule.specs.{declared.wake.Wake.Wake, Asks.with_asks, Forced.AllForced, Keeps.Keeps, Least.IsLeastAndLatest, Plans.IsPlan, Plans.moments, Schedule.IsSchedule, Schedule.RisesStrictly}
use Rattle.plan_rule.specs.{Unkeepable.AllKeepable, Unkeepable.Unkeepable}

-- where a pair is Unkeepable, no plan keeps
abbrev pub UnkeepableLaw : Type 0
UnkeepableLaw =
    (es : List Entry) (margin s : ℕ) (ends : ℕ → ℕ) (entry needed : ℕ) → Unkeepable es margin s ends entry needed →
    (plan : List Wake) → IsPlan s plan → Keeps es margin s ends plan → ⊥

-- a plan that keeps, each of whose moments is Forced by some pair, has moments that are least and latest
abbrev pub ForcedLaw : Type 0
ForcedLaw =
    (es : List Entry) (margin s : ℕ) (ends : ℕ → ℕ) (plan : List Wake) → IsPlan s plan → Keeps es margin s ends plan →
    AllForced es margin s ends None (moments plan) → IsLeastAndLatest es margin s ends (moments plan)

-- at most one list of moments is least and latest
abbrev pub UniqueLaw : Type 0
UniqueLaw =
    (es : List Entry) (margin s : ℕ) (ends : ℕ → ℕ) (ts us : List ℕ) →
    IsLeastAndLatest es margin s ends ts → IsLeastAndLatest es margin s ends us → ts ≡ us

-- where any requests keep at given moments, the Asks do
abbrev pub EnoughLaw : Type 0
EnoughLaw =
    (g : Forest) (s : ℕ) (ends : ℕ → ℕ) (plan : List Wake) → IsForest g → IsPlan s plan → Keeps g.entries g.margin s ends plan →
    Keeps g.entries g.margin s ends (with_asks g.entries g.margin s ends (moments plan))

-- where no pair is Unkeepable, there is a schedule
abbrev pub ExistenceLaw : Type 0
ExistenceLaw =
    (g : Forest) (s : ℕ) (ends : ℕ → ℕ) → IsForest g → AllKeepable g s ends → (ts : List ℕ) × IsSchedule g.entries g.margin s ends None ts

-- and the moments of each schedule rise strictly from s on, are each Forced by some pair, are kept with their Asks, and are
-- least and latest
abbrev pub ScheduleLaw : Type 0
ScheduleLaw =
    (g : Forest) (s : ℕ) (ends : ℕ → ℕ) → IsForest g → AllKeepable g s ends → (ts : List ℕ) → IsSchedule g.entries g.margin s ends None ts →
    RisesStrictly s ts × (AllForced g.entries g.margin s ends None ts
    × (Keeps g.entries g.margin s ends (with_asks g.entries g.margin s ends ts) × IsLeastAndLatest g.entries g.margin s ends ts))

-- where some plan keeps, some plan with the same moments keeps with each smaller margin
abbrev pub MarginLaw : Type 0
MarginLaw =
    (g : Forest) (less s : ℕ) (ends : ℕ → ℕ) (plan : List Wake) → IsForest g → 0 < less → less ≤ g.margin → IsPlan s plan → Keeps g.entries g.margin s ends plan →
    (other : List Wake) × (IsPlan s other × ((moments other ≡ moments plan) × Keeps g.entries less s ends other))

-- so with a smaller margin the least and latest moments are no more, and each comes no earlier
abbrev pub LeastMarginLaw : Type 0
LeastMarginLaw =
    (g : Forest) (less s : ℕ) (ends : ℕ → ℕ) (ts us : List ℕ) → IsForest g → 0 < less → less ≤ g.margin →
    IsLeastAndLatest g.entries g.margin s ends ts → IsLeastAndLatest g.entries less s ends us →
    (length us ≤ length ts) × ((k : ℕ) → k < length us → slice_index ts k ≤ slice_index us k)
