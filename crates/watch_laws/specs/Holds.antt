-- Holds: how long later tries are held back while the broker is away. The law is the contract of a public function without a body.
-- Source: this project's own.
use Rattle.std.specs.Prelude.{◌≡◌, ℕ, ◌+◌, ◌-◌, ◌*◌, ◌^◌, ◌<◌, ◌≤◌, Bool, true, false, ◌&&◌, if◌then◌else◌, [], ◌∷◌, Some, length, min}
use Rattle.std.specs.List.{list_any}
use Rattle.watch_machine.specs.{declared.track.Try.Try, Pauses.cap, Settling.is_silent}
use Rattle.watch_machine.specs.History.{History, IsReached, Turned}
use Rattle.watch_machine.specs.State.{WatchState, attempt_at, track_at}
use Rattle.watch_laws.specs.{Absence.is_clock, Absence.is_event_taken, Clocks.IsClock}

-- no entry that is pressed may pause for less than so long at a moment
abbrev pub NonePausesLess : WatchState → ℕ → ℕ → Type 0
NonePausesLess s at long = (i : ℕ) (t : Try) → i < length s.tracks → attempt_at s i ≡ Some t → t.pressed ≡ true → long ≤ cap s.forest.margin at (track_at s i) t

-- so long later tries are held back for the n-th time: a second, twice as long each time, but for no more than 19 times; five minutes at
-- most; and no longer than any entry that is pressed may pause. And it is the longest such time
pub record IsHold (s : WatchState) (at n long : ℕ) : Type 0 where
  pub doubled : long ≤ 2 ^ (min 20 n - 1) * 1000
  pub most : long ≤ 300000
  pub pressed : NonePausesLess s at long
  pub longest : (other : ℕ) → other ≤ 2 ^ (min 20 n - 1) * 1000 → other ≤ 300000 → NonePausesLess s at other → other ≤ long

-- a clock holds them back once more; or it shortens the hold that stands
pub record HoldsAnew (old new : WatchState) : Type 0 where
  pub count : new.presence.count ≡ min 20 (old.presence.count + 1)
  pub long : ℕ
  pub is_hold : IsHold old new.clocks.at new.presence.count long
  pub hold : new.presence.hold ≡ new.clocks.at + long

pub record HoldsOn (old new : WatchState) : Type 0 where
  pub count : new.presence.count ≡ old.presence.count
  pub long : ℕ
  pub is_hold : IsHold old new.clocks.at new.presence.count long
  pub hold : new.presence.hold ≡ min old.presence.hold (new.clocks.at + long)

-- the hold is as it was
pub record HoldStays (old new : WatchState) : Type 0 where
  pub count : new.presence.count ≡ old.presence.count
  pub hold : new.presence.hold ≡ old.presence.hold

-- it is none, as if there never was one
pub record HoldEnds (new : WatchState) : Type 0 where
  pub count : new.presence.count ≡ 0
  pub hold : new.presence.hold ≡ 0

-- while the broker is away, a clock after a request that had no answer, and heard of none to another, holds later tries back: once more
-- where the hold so far is over, else no longer than so far. Any other clock leaves the hold; so does every other event, but that the
-- broker goes away or comes back, which ends it. So nothing is held back while the broker is there, whatever it answers: not by an answer that
-- it is busy either
pub record HoldLaw : Type 0 where
  pub anew :
      (old : WatchState) (turn : Turned) (wall elapsed : ℕ) → History old (turn ∷ []) → IsClock wall elapsed turn → old.presence.away ≡ true → list_any is_silent old.answers ≡ true →
      old.presence.hold ≤ turn.state.clocks.at → HoldsAnew old turn.state
  pub on :
      (old : WatchState) (turn : Turned) (wall elapsed : ℕ) → History old (turn ∷ []) → IsClock wall elapsed turn → old.presence.away ≡ true → list_any is_silent old.answers ≡ true →
      turn.state.clocks.at < old.presence.hold → HoldsOn old turn.state
  pub other :
      (old : WatchState) (turn : Turned) (wall elapsed : ℕ) → History old (turn ∷ []) → IsClock wall elapsed turn → old.presence.away && list_any is_silent old.answers ≡ false → HoldStays old turn.state
  pub stays :
      (old : WatchState) (turn : Turned) → History old (turn ∷ []) → is_event_taken turn.result && is_clock turn.event ≡ false → turn.state.presence.away ≡ old.presence.away → HoldStays old turn.state
  pub ends : (old : WatchState) (turn : Turned) (away : Bool) → History old (turn ∷ []) → old.presence.away ≡ away → turn.state.presence.away ≡ (if away then false else true) → HoldEnds turn.state
  pub there :
      (s : WatchState) → IsReached s → s.presence.away ≡ false → s.presence.hold ≡ 0
