-- Outlook: the steps of what a watch says of itself. No public clause cites it.
-- Source: this project's own.
use Rattle.std.specs.Prelude.{ℕ, Bool, true, false, ◌&&◌, if◌then◌else◌, Option, Some, None, nat_le, nat_lt}
use Rattle.watch_machine.specs.{declared.outlook.Next.Next, declared.track.Track.Track, State.WatchState}
use Rattle.watch_machine.specs.Outlook.{IsFirst, is_ahead_at, is_timed, is_timed_at}

-- the earlier of the first time so far and of that of an entry of a higher index
abbrev pub earlier_next : Option Next → ℕ → ℕ → Option Next
earlier_next None at i = Some (record { at = at; entry = i })
earlier_next (Some first) at i = if nat_le first.at at then Some first else Some (record { at = at; entry = i })

-- which entries count: those that are timed, or of them those alone whose time is ahead
abbrev pub counts : Bool → WatchState → ℕ → Bool
counts false s = is_timed_at s
counts true s = is_ahead_at s

-- the first time of those
abbrev pub IsFirstBy : Bool → WatchState → Option Next → Type 0
IsFirstBy ahead s first = IsFirst (counts ahead s) s first

-- whether one of them does, by its need and its time
abbrev pub is_counted : Bool → ℕ → Track → ℕ → ℕ → Bool
is_counted false now x need at = is_timed now x need
is_counted true now x need at = is_timed now x need && nat_lt now at

-- the first time of all is ahead, or there is none
abbrev pub is_first_ahead : ℕ → Option Next → Bool
is_first_ahead now None = true
is_first_ahead now (Some first) = nat_lt now first.at
