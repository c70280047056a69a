-- Course: how far a schedule has come, and the list of wake-ups that is still to come.
-- Source: this project's own.
use Rattle.std.specs.Prelude.{ℕ, ◌≤◌, List, Option, Some, None}
use Rattle.base_moment.specs.declared.moment.TheConstants.{LAST}
use Rattle.plan_rule.specs.declared.force.Force.{Force}
use Rattle.plan_schedule.specs.{Prospect.Prospect, Prospect.terms_of, Terms.AreLed}

-- what the schedule looks at, and the moment of the last wake-up that was taken
pub record Course : Type 0 where
  pub prospect : Prospect
  pub last : Option ℕ

-- the list of the wake-ups to come: those that lead, after the last one
unfoldable pub IsToCome : Course → List Force → Type 0
IsToCome c xs = AreLed (terms_of c.prospect) c.last xs

-- a moment
abbrev pub IsMomentWithin : Option ℕ → Type 0
IsMomentWithin None = Unit {0}
IsMomentWithin (Some v) = v ≤ LAST
