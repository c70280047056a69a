-- Lull: until when nothing is to be done of the entries of a watch but to take answers. No public clause cites it.
-- Source: this project's own.
use Rattle.std.specs.Prelude.{◌≡◌, ℕ, ◌<◌, ◌≤◌, Bool, true, false, not, ◌&&◌, if◌then◌else◌, List, [], Option, Some, None, length, map, min}
use Rattle.std.specs.List.{range_with_len}
use Rattle.plan_forest.specs.{declared.entry.Entry.Entry, Forest.Forest, Forest.entry_at}
use Rattle.watch_machine.specs.{declared.clocks.Clocks.Clocks, declared.lanes.Presence.Presence, declared.lull.Lull.Lull, declared.lull.TheConstants.NEVER, declared.track.Track.Track, declared.track.Try.Try}
use Rattle.watch_machine.specs.{Beginning.beginning, Beginning.is_pressed, Clocks.ms, Clocks.sec, Lines.ready, Margins.time, Outlook.IsFirst, Outlook.is_timed_at, Press.pressed_alone, Round.opens_some, Sending.due}
use Rattle.watch_machine.specs.{Wait.latest, Wait.next_of}
use Rattle.watch_machine.specs.Settling.{pace_after, presence_after, settled_track}
use Rattle.watch_machine.specs.State.{WatchState, each, opened, track_in}
use Rattle.watch_machine.specs.Wanted.{believed, is_alive, least, need_of, wants}

-- a try that failed since the last clock
abbrev pub is_failed_try : Option Try → Bool
is_failed_try None = false
is_failed_try (Some t) = t.failed

-- nothing is to be asked, or only the lookup that is owed
abbrev pub is_owed_alone : Bool → Option Try → Bool
is_owed_alone owes None = true
is_owed_alone owes (Some t) = not t.pressed && owes

-- the moment from which on a try may go out, and the time of an entry that is not pressed
abbrev pub try_due : Presence → Track → Option Try → ℕ
try_due p x None = NEVER
try_due p x (Some t) = ready p x t

abbrev pub time_due : ℕ → Entry → Track → ℕ
time_due margin e x = if is_pressed x then NEVER else ms (time margin e x)

-- the moment at which something is to be done of an entry that carries that need: at once where a try has failed, or is to be
-- let go; NEVER while its request is out
unfoldable pub due_at : ℕ → Entry → ℕ → Presence → Track → ℕ
due_at margin e need p x =
    if is_failed_try x.attempt then 0
    else (if x.out then NEVER
    else (if wants x need then min (try_due p x x.attempt) (time_due margin e x)
    else (if is_owed_alone x.owes x.attempt then try_due p x x.attempt else 0)))

-- the first of these
unfoldable pub next_due : Forest → List Track → (ℕ → ℕ) → Presence → ℕ
next_due g xs need p = least NEVER (map (λ i. due_at g.margin (entry_at g.entries i) (need i) p (track_in xs i)) (range_with_len 0 (length g.entries)))

-- a state of these entries, tracks and clocks: nothing else matters for the next time
abbrev pub shown_by : Forest → List Track → Clocks → WatchState
shown_by g xs c = record (opened g 0) { tracks = xs; clocks = c }

-- before `next` nothing is to be done of the entries, before the second `lasting` they carry as much and no end comes, and `first`
-- is the first time of all
pub record IsLull (g : Forest) (xs : List Track) (c : Clocks) (p : Presence) (lull : Lull) : Type 0 where
  pub next : lull.next ≡ next_due g xs (need_of g.entries xs c) p
  pub needed : (i : ℕ) → i < length g.entries → 0 < need_of g.entries xs c i → lull.lasting ≤ need_of g.entries xs c i
  pub ended : (i : ℕ) → i < length g.entries → sec c.at < believed (track_in xs i).end → lull.lasting ≤ believed (track_in xs i).end
  pub told : IsFirst (is_timed_at (shown_by g xs c)) (shown_by g xs c) lull.first

-- later readings, by which the broker's clock and the wall's go beside this one as before
pub record GoesOn (new old : Clocks) : Type 0 where
  pub at : old.at ≤ new.at
  pub broker : new.broker ≡ old.broker
  pub wall : new.wall ≡ old.wall

-- the wait of these tracks, by what the entries are said to carry
abbrev pub wait_by : Forest → Clocks → Presence → List Track → (ℕ → ℕ) → ℕ
wait_by g c p xs need = least (latest g.margin c.at) (map (λ i. next_of g.margin (entry_at g.entries i) (need i) p c.at (track_in xs i)) (range_with_len 0 (length g.entries)))

-- the presence but for how long answers take
abbrev pub paced_by : ℕ → WatchState → Presence
paced_by pace s = record s.presence { pace = pace }

-- at a clock that shows c the entries carry what they carried, no end has come, nothing is to be done of them, and so it waits
pub record IsQuiet (s : WatchState) (c : Clocks) (stepped jumped : Bool) (until : ℕ) : Type 0 where
  pub needs : (i : ℕ) → i < length s.forest.entries → need_of s.forest.entries s.tracks c i ≡ need_of s.forest.entries s.tracks s.clocks i
  pub alive : (i : ℕ) → i < length s.forest.entries → is_alive (sec c.at) (track_in s.tracks i) ≡ is_alive (sec s.clocks.at) (track_in s.tracks i)
  pub settled : each (λ i. settled_track s.forest.margin c.at) s.tracks ≡ s.tracks
  pub presence : presence_after s.forest.margin c.at s.tracks s.answers s.presence ≡ paced_by (pace_after c.at s.presence.pace s.answers) s
  pub reason : beginning s.begun s.asked stepped jumped c.at s.tracks ≡ None
  pub shut : opens_some s.forest s.tracks c ≡ false
  pub pressed : pressed_alone s.forest c s.tracks ≡ s.tracks
  pub idle : (pace : ℕ) → due s.forest (paced_by pace s) c.at s.tracks ≡ []
  pub waits : (pace : ℕ) → until ≡ wait_by s.forest c (paced_by pace s) s.tracks (need_of s.forest.entries s.tracks c)

-- the state after such a clock
abbrev pub quieted : WatchState → Clocks → Bool → WatchState
quieted s c stepped = record s { clocks = c; presence = paced_by (pace_after c.at s.presence.pace s.answers) s; stepped = stepped; answers = [] }
