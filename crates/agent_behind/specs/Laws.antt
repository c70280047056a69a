-- Laws: what the scout of a lookout does, and what its agent is told, whatever is answered. The contract of a public function without a body.
-- Source: this project's own.
use Rattle.std.specs.Prelude.{◌≡◌, ◌⊎◌, ℕ, Bool, List, Option, Some}
use Rattle.agent_standing.specs.Agent.{Agent}
use Rattle.base_clock.specs.declared.reading.Reading.{Reading}
use Rattle.agent_turns.specs.declared.change.AgentChange.{AgentChange}
use Rattle.agent_turns.specs.declared.change.AgentChange.TheVariants as changes
use Rattle.plan_forest.specs.Forest.{Forest}
use Rattle.watch_scout_laws.specs.Behind.{IsLaterEnd}
use Rattle.watch_scout_laws.specs.Steps.{AllSteps, ScoutStep, scout_after_all}
use Rattle.watch_machine.specs.declared.event.WatchEvent.TheVariants.{Known}
use Rattle.plan_spread.specs.Behind.{margin_in_front}
use Rattle.watch_scout.specs.State.{ScoutState, opened_scout}
use Rattle.agent_behind.specs.Lookouts.{Ahead, GivesAhead, GoesAhead}

-- the one scout becomes the other by steps
abbrev pub Follows : ScoutState → ScoutState → Type 0
Follows s t = (xs : List ScoutStep) × (AllSteps s xs × (scout_after_all s xs ≡ t))

-- the scout that there was, or a new one
abbrev pub IsFirstScout : {L : Type 0} → Forest → Ahead L → ScoutState → Type 0
IsFirstScout g l s = (l.scout ≡ Some s) ⊎ (s ≡ opened_scout g (margin_in_front g.margin l.number) l.width)

-- in a turn the scout makes steps, from the one that there was on, or from a new one on
abbrev pub GoesLaw : Type 0 → Type 0
GoesLaw L = (a : Agent) (r : Reading) (old new : Ahead L) (waits : Bool) (t : ScoutState) → GoesAhead a r old waits new → new.scout ≡ Some t → (s : ScoutState) × (IsFirstScout a.machine.forest old s × Follows s t)

-- and so it does where an answer is handed in
abbrev pub GivesLaw : Type 0 → Type 0
GivesLaw L = (a : Agent) (old new : Ahead L) (change : Option AgentChange) (s : ScoutState) → GivesAhead a old change new → old.scout ≡ Some s → (t : ScoutState) × ((new.scout ≡ Some t) × Follows s t)

-- the agent is told of no change but of a later end of an entry that is not out, which is ahead
pub record IsLaterKnown (a : Agent) (change : AgentChange) : Type 0 where
  pub entry : ℕ
  pub end : ℕ
  pub renewable : Bool
  pub is : change ≡ changes.Known entry end renewable
  pub later : IsLaterEnd a.machine entry (Known entry end renewable)

abbrev pub ToldLaw : Type 0 → Type 0
ToldLaw L = (a : Agent) (old new : Ahead L) (change : AgentChange) → GivesAhead a old (Some change) new → IsLaterKnown a change
