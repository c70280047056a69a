-- Waits: until when a clock waits, exactly. The law is the contract of a public function without a body.
-- Source: this project's own.
use Rattle.std.specs.Prelude.{◌≡◌, ◌⊎◌, ℕ, ◌+◌, ◌*◌, ◌<◌, ◌≤◌, true, false, [], ◌∷◌, Some, Result, Ok, Err, length, max, min}
use Rattle.watch_machine.specs.{declared.command.WatchCommand.WatchCommand, declared.command.WatchOutput.WatchOutput, declared.fault.WatchFault.WatchFault, declared.track.Try.Try, Beginning.is_pressed, Lines.ready}
use Rattle.watch_machine.specs.{History.History, History.Turned, Outlook.time_of, Wanted.is_wanted}
use Rattle.watch_machine.specs.declared.command.WatchCommand.TheVariants.{Go, Taken}
use Rattle.watch_machine.specs.State.{WatchState, attempt_at, track_at}

-- the latest moment: half a minute from now, or a quarter of the margin if that is less, but a second at least
abbrev pub latest_wait : WatchState → ℕ
latest_wait s = s.clocks.at + max 1000 (min 30000 (250 * s.forest.margin))

-- something is to be done of i, which is not out, at that moment: its try may go out then and not yet, or it is wanted, not pressed, and its time
-- comes then
pub record TryComes (s : WatchState) (i moment : ℕ) : Type 0 where
  pub attempt : Try
  pub attempt_is : attempt_at s i ≡ Some attempt
  pub ahead : s.clocks.at < moment
  pub at : moment ≡ ready s.presence (track_at s i) attempt

pub record TimeComes (s : WatchState) (i moment : ℕ) : Type 0 where
  pub wanted : is_wanted s i ≡ true
  pub loose : is_pressed (track_at s i) ≡ false
  pub at : moment ≡ 1000 * time_of s i

pub record IsToBeDone (s : WatchState) (i moment : ℕ) : Type 0 where
  pub within : i < length s.forest.entries
  pub free : (track_at s i).out ≡ false
  pub comes : TryComes s i moment ⊎ TimeComes s i moment

-- a wait passes neither the latest moment nor any at which something is to be done, and ends at one of these
pub record IsWait (s : WatchState) (until : ℕ) : Type 0 where
  pub latest : until ≤ latest_wait s
  pub passes_none : (i moment : ℕ) → IsToBeDone s i moment → until ≤ moment
  pub ends : (until ≡ latest_wait s) ⊎ ((i : ℕ) × IsToBeDone s i until)

abbrev pub WaitsSo : WatchCommand → WatchState → Type 0
WaitsSo (Go requests until) s = IsWait s until
WaitsSo Taken s = Unit {0}

abbrev pub EndsSo : Result WatchOutput WatchFault → WatchState → Type 0
EndsSo (Ok output) s = WaitsSo output.command s
EndsSo (Err fault) s = Unit {0}

-- so every wait
abbrev pub WaitLaw : Type 0
WaitLaw = (old : WatchState) (turn : Turned) → History old (turn ∷ []) → EndsSo turn.result turn.state
