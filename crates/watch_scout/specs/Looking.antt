-- Looking: which entries a scout looks up at a clock, and when the next look is due.
-- Source: this project's own.
use Rattle.std.specs.Prelude.{ℕ, zero, suc, ◌+◌, ◌-◌, ◌*◌, ◌==◌, Bool, false, not, ◌&&◌, if◌then◌else◌, Option, Some, None, is_none, length, map, nat_le, nat_lt, slice_set}
use Rattle.std.specs.List.{range_with_len}
use Rattle.watch_machine.specs.{declared.track.End.End, Clocks.ms, Outlook.time_of, Wanted.is_wanted, Wanted.least}
use Rattle.watch_machine.specs.declared.track.End.TheVariants.{Unknown, At, Never}
use Rattle.watch_machine.specs.State.{WatchState, second, track_at}
use Rattle.watch_scout.specs.{declared.scout.Seen.Seen, State.ScoutState, State.seen_at}

-- ---- when

-- how long before its time an entry is looked up, in milliseconds: half of what the margin of the agent in front is more than the watch's
abbrev pub lead : ScoutState → WatchState → ℕ
lead s w = (s.margin - w.forest.margin) * 500

-- the look moment of i
abbrev pub look_moment : ScoutState → WatchState → ℕ → ℕ
look_moment s w i = ms (time_of w i) - lead s w

-- ---- which

-- an entry has had its look for that end
abbrev pub is_for : Option ℕ → ℕ → Bool
is_for None end = false
is_for (Some looked) end = looked == end

-- an end that is known, and ahead in that second, and for which its entry has had no look yet
abbrev pub is_new : ℕ → Option ℕ → End → Bool
is_new now looked Unknown = false
is_new now looked (At end) = nat_lt now end && not (is_for looked end)
is_new now looked Never = false

-- i awaits its look: its believed end is such a one, and nothing of it is out, neither by the watch nor by the scout
unfoldable pub awaits : ScoutState → WatchState → ℕ → Bool
awaits s w i = is_new (second w) (seen_at s i).looked (track_at w i).end && (not (track_at w i).out && is_none (seen_at s i).since)

-- and its look moment has come, and its time has not
unfoldable pub is_at_hand : ScoutState → WatchState → ℕ → Bool
is_at_hand s w i = awaits s w i && (nat_le (look_moment s w i) w.clocks.at && nat_lt (second w) (time_of w i))

-- ---- what becomes of it

-- an end, where it is known
abbrev pub known_end : End → Option ℕ
known_end Unknown = None
known_end (At end) = Some end
known_end Never = None

-- the scout with something else seen of i
abbrev pub with_seen : ScoutState → ℕ → Seen → ScoutState
with_seen s i x = record s { seen = slice_set s.seen i x }

-- i has its look for the end that it has: its lookup goes out, or nobody wants it
abbrev pub passed_over : ScoutState → WatchState → ℕ → ScoutState
passed_over s w i = with_seen s i (record (seen_at s i) { looked = known_end (track_at w i).end })

abbrev pub looked_up : ScoutState → WatchState → ℕ → ScoutState
looked_up s w i = record (with_seen s i (record { looked = known_end (track_at w i).end; since = Some w.clocks.at })) { out = s.out + 1 }

abbrev pub had_look : ScoutState → WatchState → ℕ → ScoutState
had_look s w i = if is_wanted w i then looked_up s w i else passed_over s w i

-- i comes up: its lookup goes out where it is at hand and wanted; and the scout from then on. So whether an entry is wanted, which is a pass
-- over all of them, is asked once for each end
abbrev pub goes_out : ScoutState → WatchState → ℕ → Bool
goes_out s w i = is_at_hand s w i && is_wanted w i

abbrev pub came_up : ScoutState → WatchState → ℕ → ScoutState
came_up s w i = if is_at_hand s w i then had_look s w i else s

-- an entry whose lookup goes out, None where there is none; and the scout from then on
pub record Found : Type 0 where
  pub entry : Option ℕ
  pub state : ScoutState

-- n entries come up from i on, one after another, until a lookup goes out
abbrev pub first_from : WatchState → ℕ → ℕ → ScoutState → Found
first_from w i zero s = record { entry = None; state = s }
first_from w i (suc n) s = if goes_out s w i then record { entry = Some i; state = came_up s w i } else first_from w (suc i) n (came_up s w i)

-- all that are left do from an index on, where a lane is free
unfoldable pub found : ScoutState → WatchState → ℕ → Found
found s w from = if nat_lt s.out s.width then first_from w from (length w.forest.entries - from) s else record { entry = None; state = s }

-- ---- when next

-- the look moment of an entry that awaits its look, where it is ahead
unfoldable pub next_look : ScoutState → WatchState → ℕ → ℕ → ℕ
next_look s w until i = if awaits s w i && nat_lt w.clocks.at (look_moment s w i) then look_moment s w i else until

-- the least of these, and of the moment until which the watch waits
unfoldable pub next_moment : ScoutState → WatchState → ℕ → ℕ
next_moment s w until = least until (map (next_look s w until) (range_with_len 0 (length w.forest.entries)))
