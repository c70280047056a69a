-- Pauses: how long an entry that failed waits. The laws are the contract of public functions without a body.
-- Source: this project's own.
use Rattle.std.specs.Prelude.{◌≡◌, ℕ, ◌+◌, ◌-◌, ◌*◌, ◌/◌, ◌^◌, ◌<◌, ◌≤◌, Bool, true, false, ◌&&◌, if◌then◌else◌, [], ◌∷◌, Option, Some, None, max, min, nat_le}
use Rattle.watch_machine.specs.{declared.track.Track.Track, declared.track.Try.Try, History.History, History.Turned, Pauses.cap}
use Rattle.watch_machine.specs.declared.track.End.TheVariants.{Unknown, At, Never}
use Rattle.watch_machine.specs.State.{WatchState, attempt_at, track_at}
use Rattle.watch_laws.specs.{Absence.is_clock, Absence.is_event_taken, Beginnings.why_begun, Waiting.TryFails}

-- so many milliseconds are left at a moment to the end of an entry, which is ahead
pub record IsLeft (at : ℕ) (x : Track) (left : ℕ) : Type 0 where
  pub end : ℕ
  pub ends : x.end ≡ At end
  pub ahead : at < 1000 * end
  pub is : left ≡ 1000 * end - at

-- the longest pause of an entry after a try, at a moment: a sixteenth of what is left to its end, where that is ahead, but a second at
-- least. After a loss it is half a minute at most where no more than two margins are left, or where the end is unknown. And it is never
-- more than five minutes
pub record PauseLaw : Type 0 where
  pub sixteenth : (margin at : ℕ) (x : Track) (t : Try) (left : ℕ) → IsLeft at x left → cap margin at x t ≤ max 1000 (left / 16)
  pub near : (margin at : ℕ) (x : Track) (t : Try) (left : ℕ) → IsLeft at x left → t.lost ≡ true → left ≤ 2000 * margin → cap margin at x t ≤ 30000
  pub unknown : (margin at : ℕ) (x : Track) (t : Try) → x.end ≡ Unknown → t.lost ≡ true → cap margin at x t ≤ 30000
  pub most : (margin at : ℕ) (x : Track) (t : Try) → cap margin at x t ≤ 300000

-- the longest pause by what is left to an end
abbrev pub longest_by : ℕ → Bool → ℕ → ℕ
longest_by margin lost left = min (if lost && nat_le left (2000 * margin) then 30000 else 300000) (max 1000 (left / 16))

-- the longest pause is just that, no shorter either: after a loss an end that nobody has told counts as two margins ahead, and where nothing
-- is left, or an entry of unknown end was refused, it is five minutes
pub record LongestLaw : Type 0 where
  pub ahead : (margin at : ℕ) (x : Track) (t : Try) (left : ℕ) → IsLeft at x left → cap margin at x t ≡ longest_by margin t.lost left
  pub unknown : (margin at : ℕ) (x : Track) (t : Try) → x.end ≡ Unknown → t.lost ≡ true → cap margin at x t ≡ longest_by margin true (2000 * margin)
  pub refused : (margin at : ℕ) (x : Track) (t : Try) → x.end ≡ Unknown → t.lost ≡ false → cap margin at x t ≡ 300000
  pub past : (margin at : ℕ) (x : Track) (t : Try) (end : ℕ) → x.end ≡ At end → 1000 * end ≤ at → cap margin at x t ≡ 300000
  pub never : (margin at : ℕ) (x : Track) (t : Try) → x.end ≡ Never → cap margin at x t ≡ 300000

-- how long an entry pauses after a try that has failed so often in a row: a second, doubled by each failure after the first, by 19 of them at
-- most, and no longer than its longest pause
abbrev pub pause_of : WatchState → ℕ → ℕ → Try → ℕ
pause_of s i at t = min (2 ^ (min 20 t.fails - 1) * 1000) (cap s.forest.margin at (track_at s i) t)

-- an entry was out for a second or more, or was never asked
abbrev pub was_out_long : Option ℕ → ℕ → Bool
was_out_long None at = true
was_out_long (Some last) at = nat_le (last + 1000) at

-- what the clock after its failure t makes of the try u of an entry
pub record IsPaused (old : WatchState) (turn : Turned) (i : ℕ) (t u : Try) : Type 0 where
  pub soon : u.at ≤ turn.state.clocks.at + pause_of old i turn.state.clocks.at t
  pub paused : why_begun turn.result ≡ None → u.at ≡ turn.state.clocks.at + pause_of old i turn.state.clocks.at t
  pub fails : u.fails ≡ t.fails
  pub alone : u.alone ≡ t.alone && was_out_long (track_at old i).last turn.state.clocks.at

-- the clock after a failure of an entry that is pressed, and not pressed anew, sets that pause, and a beginning may only shorten it. It has
-- failed as often as before, and is alone if it was and was out for a second
abbrev pub DoubledLaw : Type 0
DoubledLaw = (old : WatchState) (turn : Turned) (i : ℕ) (t u : Try) → History old (turn ∷ []) → TryFails old turn i t u → 0 < u.fails → IsPaused old turn i t u

-- a clock leaves i, where it is pressed, a try that has not failed since the clock before
pub record TryWaits (old : WatchState) (turn : Turned) (i : ℕ) (t u : Try) : Type 0 where
  pub clock : is_clock turn.event ≡ true
  pub taken : is_event_taken turn.result ≡ true
  pub before : attempt_at old i ≡ Some t
  pub waits : t.failed ≡ false
  pub after : attempt_at turn.state i ≡ Some u
  pub pressed : u.pressed ≡ true

-- it may go as soon as it might
pub record IsUnpaused (turn : Turned) (t u : Try) : Type 0 where
  pub soon : u.at ≤ t.at
  pub same : why_begun turn.result ≡ None → u.at ≡ t.at
  pub fails : u.fails ≡ t.fails
  pub alone : u.alone ≡ t.alone

-- no other begins to pause: not one that failed before, nor one that was lost and is due again since the broker is back
abbrev pub UnpausedLaw : Type 0
UnpausedLaw = (old : WatchState) (turn : Turned) (i : ℕ) (t u : Try) → History old (turn ∷ []) → TryWaits old turn i t u → 0 < u.fails → IsUnpaused turn t u
