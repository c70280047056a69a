-- Replan: planning anew at a moment.
-- Source: this project's own.
use Rattle.std.specs.Prelude.{◌≡◌, ℕ, ◌≤◌, ◌<◌, List, ◌++◌, length}
use Rattle.plan_forest.specs.Forest.{Forest, end_of}
use Rattle.plan_rule.specs.{Least.IsLeastAndLatest, declared.limit.TheConstants.LIMIT}
use Rattle.tick_keeper.specs.{declared.fault.StepFault.StepFault, Shorten.pairs, Shorten.shorten, State.CoreState}
use Rattle.tick_keeper.specs.declared.fault.StepFault.TheVariants.{OutOfMemory, TooLong}

-- the moments are those of the one least and latest plan from t, for the ends and needs of a forest
abbrev pub IsPlanOf : Forest → ℕ → List ℕ → Type 0
IsPlanOf g t ts = IsLeastAndLatest g.entries g.margin t (end_of g.entries) ts

-- the state planned anew at t with these moments: needs are shortened and noted, and t is the last moment
abbrev pub state_planned : CoreState → ℕ → List ℕ → CoreState
state_planned s t ts = record s { forest = shorten s.forest t; last = t; to_come = ts; shortened = s.shortened ++ pairs s.forest t }

-- new is old, planned anew at t
pub record Replan (old : CoreState) (t : ℕ) (new : CoreState) : Type 0 where
  pub moments : List ℕ
  pub best : IsPlanOf (shorten old.forest t) t moments
  pub few : length moments ≤ LIMIT
  pub is : new ≡ state_planned old t moments

-- planned anew at t, the forest has more than LIMIT moments to come
pub record ReplanTooLong (g : Forest) (t : ℕ) : Type 0 where
  pub moments : List ℕ
  pub best : IsPlanOf (shorten g t) t moments
  pub many : LIMIT < length moments

-- what stands in the way of planning anew: it is too long, or memory was wanting
abbrev pub PlanFails : Forest → ℕ → StepFault → Type 0
PlanFails g t TooLong = ReplanTooLong g t
PlanFails g t OutOfMemory = Unit {0}
PlanFails g t fault = ⊥
