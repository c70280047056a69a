-- Steps: what a scout does, one step after another, beside a watch that may be in any state.
-- Source: this project's own.
use Rattle.std.specs.Prelude.{◌≡◌, ℕ, List, [], ◌∷◌, Option}
use Rattle.watch_machine.specs.{declared.event.WatchEvent.WatchEvent, declared.event.WatchReply.WatchReply, State.WatchState}
use Rattle.watch_scout.specs.{Hearing.event_of, Hearing.freed, Looking.found, State.ScoutState}

-- it was asked for a lookup that is to go out, from an index on: the watch beside it, the entry that was found, and the scout after it
pub record Sought : Type 0 where
  pub watch : WatchState
  pub from : ℕ
  pub entry : Option ℕ
  pub state : ScoutState

-- it was handed the answer to a lookup: the watch beside it, what that is to be told, and the scout after it
pub record Heard : Type 0 where
  pub watch : WatchState
  pub entry : ℕ
  pub reply : WatchReply
  pub event : Option WatchEvent
  pub state : ScoutState

pub data ScoutStep : Type 0 where
  Seeks : Sought → ScoutStep
  Hears : Heard → ScoutStep

abbrev pub IsStep : ScoutState → ScoutStep → Type 0
IsStep s (Seeks x) = (x.entry ≡ (found s x.watch x.from).entry) × (x.state ≡ (found s x.watch x.from).state)
IsStep s (Hears x) = (x.event ≡ event_of s x.watch x.entry x.reply) × (x.state ≡ freed s x.entry)

abbrev pub scout_after : ScoutStep → ScoutState
scout_after (Seeks x) = x.state
scout_after (Hears x) = x.state

abbrev pub watch_beside : ScoutStep → WatchState
watch_beside (Seeks x) = x.watch
watch_beside (Hears x) = x.watch

abbrev pub AllSteps : ScoutState → List ScoutStep → Type 0
AllSteps s [] = Unit {0}
AllSteps s (x ∷ xs) = IsStep s x × AllSteps (scout_after x) xs

abbrev pub scout_after_all : ScoutState → List ScoutStep → ScoutState
scout_after_all s [] = s
scout_after_all s (x ∷ xs) = scout_after_all (scout_after x) xs
