-- Decides: the answer for a forest and a start.
-- Source: this project's own, over Vault, "Lease, renew, and revoke" (maximum TTL); Vault, "Tokens".
use Rattle.std.specs.Prelude.{◌≡◌, ℕ, ◌-◌, ◌*◌, ◌≤◌, ◌<◌, ◌++◌, List, [], ◌∷◌, None, length}
use Rattle.plan_forest.specs.Forest.{Forest, end_of}
use Rattle.plan_rule.specs.{declared.wake.Wake.Wake, Asks.with_asks, Keeps.Keeps, Least.IsLeastAndLatest, Plans.IsPlan, Plans.moments, Requests.requests, declared.force.Force.Force, declared.run.Run.Run}
use Rattle.plan_rule.specs.{Runs.AreRuns, Runs.all_wakes, Runs.moments_of, Runs.wakes, declared.limit.TheConstants.LIMIT}
use Rattle.plan_needs.specs.Carried.{IsCarried}
use Rattle.plan_schedule.specs.Forces.{AreForces}
use Rattle.plan_search.specs.{declared.decision.Decision.Decision, declared.decision.Decision.TheVariants.Keep, declared.decision.Decision.TheVariants.TooLong, declared.decision.Decision.TheVariants.Unkeepable, Planned.Planned}
use Rattle.plan_search.specs.{Shortfall.IsShortfall}

-- each run goes from the left as long as it can: what follows begins with no longer one
abbrev pub AreLongest : List Run → Type 0
AreLongest [] = Unit {0}
AreLongest (r ∷ rs) = ((other : Run) (rest : List Force) → all_wakes (r ∷ rs) ≡ wakes other ++ rest → other.count ≤ r.count) × AreLongest rs

-- runs whose wake-ups are the forces from s on, each as long as it can be. Their moments are least and latest; with their
-- Asks they keep, and no plan that keeps at these moments makes fewer requests
pub record AreBest (g : Forest) (s : ℕ) (rs : List Run) : Type 0 where
  pub runs : AreRuns rs
  pub forces : AreForces g.entries g.margin s (end_of g.entries) None (all_wakes rs)
  pub least : IsLeastAndLatest g.entries g.margin s (end_of g.entries) (moments_of (all_wakes rs))
  pub kept : Keeps g.entries g.margin s (end_of g.entries) (with_asks g.entries g.margin s (end_of g.entries) (moments_of (all_wakes rs)))
  pub fewest : (plan : List Wake) → IsPlan s plan → Keeps g.entries g.margin s (end_of g.entries) plan → moments plan ≡ moments_of (all_wakes rs)
      → requests (with_asks g.entries g.margin s (end_of g.entries) (moments_of (all_wakes rs))) ≤ requests plan
  pub longest : AreLongest rs
  pub few : length (all_wakes rs) ≤ LIMIT
  pub few_runs : length rs ≤ 2 * length g.entries - 1

-- a plan by the forest's needs from s on
pub record IsBestPlan (g : Forest) (s : ℕ) (p : Planned) : Type 0 where
  pub start : p.start ≡ s
  pub carried : IsCarried g p.start p.carried
  pub best : AreBest g s p.runs

-- some plan from s keeps
abbrev pub SomeKeeps : Forest → ℕ → Type 0
SomeKeeps g s = (plan : List Wake) × (IsPlan s plan × Keeps g.entries g.margin s (end_of g.entries) plan)

-- none does
abbrev pub NoneKeeps : Forest → ℕ → Type 0
NoneKeeps g s = (plan : List Wake) → IsPlan s plan → Keeps g.entries g.margin s (end_of g.entries) plan → ⊥

-- some plan keeps, and each that does has more than LIMIT wake-ups
pub record PlanIsTooLong (g : Forest) (s : ℕ) : Type 0 where
  pub some : SomeKeeps g s
  pub long : (plan : List Wake) → IsPlan s plan → Keeps g.entries g.margin s (end_of g.entries) plan → LIMIT < length plan

abbrev pub Decides : Forest → ℕ → Decision → Type 0
Decides g s (Keep p) = IsBestPlan g s p
Decides g s (Unkeepable entry needed) = IsShortfall g s entry needed × NoneKeeps g s
Decides g s TooLong = PlanIsTooLong g s
