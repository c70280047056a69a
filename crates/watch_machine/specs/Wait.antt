-- Wait: until when nothing is to be done but to take answers.
-- Source: this project's own.
use Rattle.std.specs.Prelude.{ℕ, ◌+◌, ◌*◌, not, ◌&&◌, if◌then◌else◌, Option, Some, None, length, map, max, min, nat_lt}
use Rattle.std.specs.List.{range_with_len}
use Rattle.plan_forest.specs.declared.entry.Entry.{Entry}
use Rattle.watch_machine.specs.{declared.lanes.Presence.Presence, declared.track.Track.Track, declared.track.Try.Try, Beginning.is_pressed, Clocks.ms, Lines.ready, Margins.time}
use Rattle.watch_machine.specs.State.{WatchState, entry_of, track_at}
use Rattle.watch_machine.specs.Wanted.{least, wanted_need, wants}

-- the clocks are compared at least so often: every half minute, and four times a margin
unfoldable pub latest : ℕ → ℕ → ℕ
latest margin at = at + max 1000 (min 30000 (margin * 250))

-- the moment from which a try may go out, where that is ahead: one that is due waits for a lane, and an answer comes first
abbrev pub try_at : Presence → ℕ → ℕ → Track → Option Try → ℕ
try_at p at latest x None = latest
try_at p at latest x (Some t) = if nat_lt at (ready p x t) then ready p x t else latest

-- the time of an entry that carries that need, where it is wanted and not pressed
abbrev pub time_at : ℕ → Entry → Track → ℕ → ℕ → ℕ
time_at margin e x need latest = if wants x need && not (is_pressed x) then ms (time margin e x) else latest

-- the moment at which an entry has something to be done: none while its request is out
unfoldable pub next_of : ℕ → Entry → ℕ → Presence → ℕ → Track → ℕ
next_of margin e need p at x =
    let last = latest margin at in
    if x.out then last else min (try_at p at last x x.attempt) (time_at margin e x need last)

-- the least of these, and of the latest
unfoldable pub wait : WatchState → ℕ
wait s =
    least (latest s.forest.margin s.clocks.at)
    (map (λ i. next_of s.forest.margin (entry_of s i) (wanted_need s i) s.presence s.clocks.at (track_at s i)) (range_with_len 0 (length s.forest.entries)))
