-- State: what a watch holds between two events.
-- Source: this project's own.
use Rattle.std.specs.Prelude.{ℕ, Bool, true, false, not, ◌&&◌, List, [], Option, None, length, map, slice_index_or}
use Rattle.std.specs.List.{range_with_len}
use Rattle.plan_forest.specs.{declared.entry.Entry.Entry, Forest.Forest, Forest.entry_at}
use Rattle.watch_machine.specs.{declared.clocks.Clocks.Clocks, declared.lanes.LaneAnswer.LaneAnswer, declared.lanes.Out.Out, declared.lanes.Presence.Presence, declared.track.End.TheVariants.Unknown, declared.track.Track.Track}
use Rattle.watch_machine.specs.{declared.track.Try.Try, Clocks.sec, Clocks.unset}

-- the forest, with needs, steps, ceilings and parents by the broker's moments, as looked up; the most requests that are out at
-- once; for each entry what is known and to be asked of it; the requests that are out, and the answers since the last clock, both
-- as they came; the clocks; whether the broker is there; the last beginning, None before the first clock; whether one was asked
-- for; and whether a date has shown the broker's clock set on since the last one
pub record WatchState : Type 0 where
  pub forest : Forest
  pub width : ℕ
  pub tracks : List Track
  pub out : List Out
  pub answers : List LaneAnswer
  pub clocks : Clocks
  pub presence : Presence
  pub begun : Option ℕ
  pub asked : Bool
  pub stepped : Bool

-- what is read past the last entry: one that is led no further, and has nothing to be asked
abbrev pub no_track : Track
no_track = record { end = Unknown; renewable = false; top = true; last_try = false; grant = None; owes = false; attempt = None; last = None; out = false }

-- the track at an index of a list
abbrev pub track_in : List Track → ℕ → Track
track_in xs i = slice_index_or xs i no_track

abbrev pub track_at : WatchState → ℕ → Track
track_at s i = track_in s.tracks i

abbrev pub attempt_at : WatchState → ℕ → Option Try
attempt_at s i = (track_at s i).attempt

abbrev pub entry_of : WatchState → ℕ → Entry
entry_of s i = entry_at s.forest.entries i

-- an entry has its last try: it is at its top, and may be asked once more
abbrev pub has_last_try : Track → Bool
has_last_try x = x.top && x.last_try

-- it may still get one: no grant since one that led further has left it at its top
abbrev pub keeps_last_try : Track → Bool
keeps_last_try x = not x.top && x.last_try

-- the second it is now
abbrev pub second : WatchState → ℕ
second s = sec s.clocks.at

-- the tracks, each made anew by its index
unfoldable pub each : (ℕ → Track → Track) → List Track → List Track
each f xs = map (λ i. f i (track_in xs i)) (range_with_len 0 (length xs))

-- what is known of an entry that is watched from now on
abbrev pub fresh_track : Entry → Track
fresh_track e = record { end = Unknown; renewable = e.renewable; top = false; last_try = true; grant = None; owes = false; attempt = None; last = None; out = false }

-- the broker is there, and nothing is held back
abbrev pub broker_present : Presence
broker_present = record { away = false; count = 0; hold = 0; pace = 0 }

-- the state of a new watch
abbrev pub opened : Forest → ℕ → WatchState
opened g width = record {
  forest = g;
  width = width;
  tracks = map fresh_track g.entries;
  out = [];
  answers = [];
  clocks = unset;
  presence = broker_present;
  begun = None;
  asked = false;
  stepped = false;
}
