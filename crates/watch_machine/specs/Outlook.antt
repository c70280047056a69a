-- Outlook: what a watch says of itself between two events: what the broker's clock shows, and when an entry is next due.
-- Source: this project's own.
use Rattle.std.specs.Prelude.{◌≡◌, ℕ, ◌<◌, ◌≤◌, Bool, true, false, ◌&&◌, Option, Some, None, length, min, nat_lt}
use Rattle.plan_forest.specs.declared.forest.TheConstants.{END_MAX}
use Rattle.watch_machine.specs.{declared.outlook.Next.Next, declared.track.Track.Track, Clocks.to_broker, Margins.time}
use Rattle.watch_machine.specs.State.{WatchState, entry_of, second, track_at}
use Rattle.watch_machine.specs.Wanted.{is_alive, wanted_need, wants}

-- what the broker's clock shows at a second of this clock; after the greatest end, what it shows then
abbrev pub broker_moment : WatchState → ℕ → ℕ
broker_moment s second = to_broker s.clocks.broker (min second END_MAX)

-- and now
abbrev pub broker_now : WatchState → ℕ
broker_now s = broker_moment s (second s)

-- an entry with that need is wanted, and its end is ahead
unfoldable pub is_timed : ℕ → Track → ℕ → Bool
is_timed now x need = wants x need && is_alive now x

abbrev pub is_timed_at : WatchState → ℕ → Bool
is_timed_at s i = is_timed (second s) (track_at s i) (wanted_need s i)

abbrev pub time_of : WatchState → ℕ → ℕ
time_of s i = time s.forest.margin (entry_of s i) (track_at s i)

-- and its time is ahead
abbrev pub is_ahead_at : WatchState → ℕ → Bool
is_ahead_at s i = is_timed_at s i && nat_lt (second s) (time_of s i)

-- the least time of those that count among the first n, and the lowest whose it is
pub record IsFirstTime (counts : ℕ → Bool) (s : WatchState) (n : ℕ) (first : Next) : Type 0 where
  pub within : first.entry < n
  pub counted : counts first.entry ≡ true
  pub at_is : first.at ≡ time_of s first.entry
  pub least : (i : ℕ) → i < n → counts i ≡ true → first.at ≤ time_of s i
  pub lowest : (i : ℕ) → i < first.entry → counts i ≡ true → first.at < time_of s i

-- none where none of them counts
abbrev pub IsFirstOf : (ℕ → Bool) → WatchState → ℕ → Option Next → Type 0
IsFirstOf counts s n None = (i : ℕ) → i < n → counts i ≡ false
IsFirstOf counts s n (Some first) = IsFirstTime counts s n first

-- of all entries
abbrev pub IsFirst : (ℕ → Bool) → WatchState → Option Next → Type 0
IsFirst counts s first = IsFirstOf counts s (length s.forest.entries) first

-- by the first that is ahead it is that one; where none is, the first of all, which has come already
abbrev pub IsNextBy : WatchState → Option Next → Option Next → Type 0
IsNextBy s None next = IsFirst (is_timed_at s) s next
IsNextBy s (Some ahead) next = next ≡ Some ahead

-- the next time
abbrev pub IsNextTime : WatchState → Option Next → Type 0
IsNextTime s next = (ahead : Option Next) × (IsFirst (is_ahead_at s) s ahead × IsNextBy s ahead next)
