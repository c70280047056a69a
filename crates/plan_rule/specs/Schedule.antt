-- Schedule: the moments each as late as the earliest bound that falls short allows.
-- Source: this project's own, over Vault, "Lease, renew, and revoke" (the increment counts from the renewal; maximum TTL).
use Rattle.std.specs.Prelude.{◌≡◌, ℕ, ◌+◌, ◌-◌, ◌≤◌, ◌<◌, List, [], ◌∷◌, Option, Some}
use Rattle.plan_forest.specs.{declared.entry.Entry.Entry, Carried.carried}
use Rattle.plan_rule.specs.Forced.{bound}

-- after a wake-up at prev, t is the next moment: some entry's bound falls short of its carried need, none that does has
-- an earlier bound, and t comes the margin before that bound
pub record IsNextMoment (es : List Entry) (margin s : ℕ) (ends : ℕ → ℕ) (prev : Option ℕ) (t : ℕ) : Type 0 where
  pub entry : ℕ
  pub short : bound es ends prev entry < carried es s entry
  pub earliest : (i : ℕ) → bound es ends prev i < carried es s i → bound es ends prev entry ≤ bound es ends prev i
  pub moment : t ≡ bound es ends prev entry - margin

-- each moment is the next after the one before it, and after the last no entry's bound falls short
abbrev pub IsSchedule : List Entry → ℕ → ℕ → (ℕ → ℕ) → Option ℕ → List ℕ → Type 0
IsSchedule es margin s ends prev [] = (i : ℕ) → carried es s i ≤ bound es ends prev i
IsSchedule es margin s ends prev (t ∷ ts) = IsNextMoment es margin s ends prev t × IsSchedule es margin s ends (Some t) ts

-- the first is s or later, and each is later than the one before it
abbrev pub RisesStrictly : ℕ → List ℕ → Type 0
RisesStrictly s [] = Unit {0}
RisesStrictly s (t ∷ ts) = (s ≤ t) × RisesStrictly (t + 1) ts
