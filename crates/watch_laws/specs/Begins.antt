-- Begins: when a clock begins anew, and what is known from then on. The law is the contract of a public function without a body.
-- Source: this project's own.
use Rattle.std.specs.Prelude.{◌≡◌, ◌⊎◌, ℕ, ◌+◌, ◌<◌, ◌≤◌, true, false, [], ◌∷◌, Some, None, is_some, length, min}
use Rattle.watch_machine.specs.{declared.event.WatchEvent.TheVariants.Begin, declared.notes.BeginReason.TheVariants.Day, declared.reading.TheConstants.READING_MAX, Beginning.is_pressed, Wanted.believed}
use Rattle.watch_machine.specs.History.{History, IsReached, Turned}
use Rattle.watch_machine.specs.State.{WatchState, second, track_at}
use Rattle.watch_laws.specs.{Absence.is_event_taken, Beginnings.HasParted, Beginnings.why_begun, Clocks.IsClock}

-- somebody is pressed whose end is after that second
abbrev pub SomebodyIsUrgent : WatchState → ℕ → Type 0
SomebodyIsUrgent s now = (i : ℕ) × ((is_pressed (track_at s i) ≡ true) × (now < believed (track_at s i).end))

-- a clock may go on without a beginning: there was one, the wall has not jumped, none is asked for, ten minutes have not passed since if a date has
-- shown the broker's clock set on since, and a day has not passed, or somebody is pressed whose end is ahead
pub record MayGoOn (old new : WatchState) (wall : ℕ) : Type 0 where
  pub begun : ℕ
  pub begun_is : old.begun ≡ Some begun
  pub stays : HasParted old.clocks.wall new.clocks.at (min wall READING_MAX) → ⊥
  pub unasked : old.asked ≡ false
  pub dates : new.stepped ≡ true → new.clocks.at < begun + 600000
  pub day : (new.clocks.at < begun + 86400000) ⊎ SomebodyIsUrgent old (second new)

-- a day has passed since the last beginning, and nobody is pressed whose end is ahead
pub record IsNewDay (old new : WatchState) : Type 0 where
  pub begun : ℕ
  pub begun_is : old.begun ≡ Some begun
  pub past : begun + 86400000 ≤ new.clocks.at
  pub quiet : SomebodyIsUrgent old (second new) → ⊥

-- after a beginning it is the last one, none is asked for, no date counts that came before, and nobody is called topped
pub record IsBegunAnew (s : WatchState) : Type 0 where
  pub begun : s.begun ≡ Some s.clocks.at
  pub asked : s.asked ≡ false
  pub stepped : s.stepped ≡ false
  pub top : (i : ℕ) → i < length s.tracks → (track_at s i).top ≡ false

-- a clock begins anew where it may not go on; for the sake of a day only where it is a new one; and so it begins
pub record BeginLaw : Type 0 where
  pub goes_on :
      (old : WatchState) (turn : Turned) (wall elapsed : ℕ) → IsReached old → History old (turn ∷ []) → IsClock wall elapsed turn → why_begun turn.result ≡ None → MayGoOn old turn.state wall
  pub day : (old : WatchState) (turn : Turned) (wall elapsed : ℕ) → History old (turn ∷ []) → IsClock wall elapsed turn → why_begun turn.result ≡ Some Day → IsNewDay old turn.state
  pub anew : (old : WatchState) (turn : Turned) (wall elapsed : ℕ) → History old (turn ∷ []) → IsClock wall elapsed turn → is_some (why_begun turn.result) ≡ true → IsBegunAnew turn.state
  pub asks : (old : WatchState) (turn : Turned) → History old (turn ∷ []) → turn.event ≡ Begin → is_event_taken turn.result ≡ true → turn.state.asked ≡ true
