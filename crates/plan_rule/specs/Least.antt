-- Least and latest: a list of moments that no plan can better.
-- Source: this project's own.
use Rattle.std.specs.Prelude.{◌≡◌, ℕ, ◌≤◌, ◌<◌, List, length, slice_index}
use Rattle.plan_forest.specs.declared.entry.Entry.{Entry}
use Rattle.plan_rule.specs.{declared.wake.Wake.Wake, Keeps.Keeps, Plans.IsPlan, Plans.moments}

-- some plan with these moments keeps; each plan that keeps has at least as many wake-ups, and its k-th is no later than
-- the k-th of these
pub record IsLeastAndLatest (es : List Entry) (margin s : ℕ) (ends : ℕ → ℕ) (ts : List ℕ) : Type 0 where
  pub plan : List Wake
  pub in_order : IsPlan s plan
  pub at_these : moments plan ≡ ts
  pub kept : Keeps es margin s ends plan
  pub least : (other : List Wake) → IsPlan s other → Keeps es margin s ends other → length ts ≤ length other
  pub latest : (other : List Wake) → IsPlan s other → Keeps es margin s ends other → (k : ℕ) → k < length ts → slice_index (moments other) k ≤ slice_index ts k
