-- Pauses: one pause of a start that waits, or the end of its wait. No public clause cites them.
-- Source: this project's own.
use Rattle.std.specs.Prelude.{◌≡◌, ℕ, List, [], ◌∷◌, Option, Some, None}
use Rattle.agent_standing.specs.Agent.{Agent}
use Rattle.base_clock.specs.{Seen.read_call, declared.reading.Reading.Reading}
use Rattle.agent_turns.specs.{Changes.AllGiven, Changes.given_by, Held.ServingSide, Neighbours.AllCalled, Neighbours.NeighbourCall, declared.change.AgentChange.AgentChange}
use Rattle.agent_turns.specs.Apart.{Ending, EndsBy, IsPause, IsShown, IsShownAt, Pause, called_at, called_in, clocked_at, given_at}

-- a pause by what was read, but for its wait: nothing is another
pub record IsPausedApart {N : Type 0} (does : NeighbourCall → N → N → Type 0) (until : ℕ) (reading : Option Reading) (millis : ℕ) (seen shown : Agent) (old new : ServingSide) (before given : Option (List AgentChange)) (a b : N) : Type 0 where
  pub pause : Pause
  pub read : reading ≡ Some pause.reading
  pub waits : millis ≡ pause.millis
  pub is : IsPause until pause
  pub shows : IsShown pause.reading seen pause.shown
  pub shown_is : shown ≡ pause.shown
  pub same : new ≡ old
  pub gives : AllGiven (given_by pause.made) before given
  pub calls : AllCalled does (called_in old.held.agent pause) a b

-- or the wait ends there
pub record IsEnded {N : Type 0} (does : NeighbourCall → N → N → Type 0) (until : ℕ) (reading : Option Reading) (seen : Agent) (old new : ServingSide) (before given : Option (List AgentChange)) (a b : N) : Type 0 where
  pub ending : Ending
  pub read : clocked_at ending ≡ read_call reading ∷ []
  pub shows : IsShownAt ending seen
  pub is : EndsBy until ending old new
  pub gives : AllGiven (given_at ending) before given
  pub calls : AllCalled does (called_at new.held.agent ending) a b

abbrev pub Pauses : {N : Type 0} → (NeighbourCall → N → N → Type 0) → ℕ → Option Reading → Option ℕ → Agent → Agent → ServingSide → ServingSide → Option (List AgentChange) → Option (List AgentChange) → N → N → Type 0
Pauses does until reading (Some millis) seen shown old new before given a b = IsPausedApart does until reading millis seen shown old new before given a b
Pauses does until reading None seen shown old new before given a b = IsEnded does until reading seen old new before given a b
