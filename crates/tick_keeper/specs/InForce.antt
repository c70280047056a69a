-- In force: what holds of the plan of a state whenever no round is open.
-- Source: this project's own.
use Rattle.std.specs.Prelude.{◌≡◌, ℕ, ◌≤◌, List, [], ◌∷◌, Option, Some, None, length}
use Rattle.plan_forest.specs.declared.entry.Entry.{Entry}
use Rattle.plan_rule.specs.{Forced.Forced, declared.force.Force.Force, declared.limit.TheConstants.LIMIT}
use Rattle.tick_keeper.specs.{Replan.IsPlanOf, State.CoreState}

-- the moments to come are those of the least and latest plan for the ends as told and the needs in force, from the last
-- moment
abbrev pub InForce : CoreState → Type 0
InForce s = IsPlanOf s.forest s.last s.to_come × (length s.to_come ≤ LIMIT)

-- so they are wherever no round is open
abbrev pub InForceBetweenRounds : CoreState → Type 0
InForceBetweenRounds s = s.round ≡ None → InForce s

-- each wake-up is Forced as it is named, after one at prev
abbrev pub AllForcedAs : List Entry → ℕ → ℕ → (ℕ → ℕ) → Option ℕ → List Force → Type 0
AllForcedAs es margin s ends prev [] = Unit {0}
AllForcedAs es margin s ends prev (x ∷ xs) = Forced es margin s ends prev x.at x.entry x.needed × AllForcedAs es margin s ends (Some x.at) xs
