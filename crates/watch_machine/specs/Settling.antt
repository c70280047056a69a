-- Settling: what a clock makes of the answers since the last one: the clocks, how long answers take, and the pauses after failures.
-- Source: this project's own.
use Rattle.std.specs.Prelude.{ℕ, ◌+◌, ◌-◌, ◌/◌, Bool, true, false, not, ◌&&◌, ◌||◌, if◌then◌else◌, List, [], ◌∷◌, Option, Some, None, fold, is_none, map, max, min, nat_le}
use Rattle.std.specs.List.{list_any}
use Rattle.base_moment.specs.declared.moment.TheConstants.{LAST}
use Rattle.watch_machine.specs.{declared.clocks.Clocks.Clocks, declared.event.WatchReply.WatchReply, declared.lanes.LaneAnswer.LaneAnswer, declared.lanes.Presence.Presence, declared.track.Track.Track, declared.track.Try.Try, Lines.rested}
use Rattle.watch_machine.specs.{State.WatchState, State.each, Wanted.least}
use Rattle.watch_machine.specs.declared.event.WatchReply.TheVariants.{Told, Refused, Busy, Lost}
use Rattle.watch_machine.specs.Clocks.{dated_by, first_clocks, is_ahead, is_stepped, moment_at_reading, reading, walled}
use Rattle.watch_machine.specs.Pauses.{cap, doubled, pause}

-- the reply shows that the broker is there
abbrev pub is_real : WatchReply → Bool
is_real (Told seconds renewable date) = true
is_real (Refused status date) = true
is_real Busy = true
is_real Lost = false

abbrev pub date_of : WatchReply → Option ℕ
date_of (Told seconds renewable date) = date
date_of (Refused status date) = date
date_of Busy = None
date_of Lost = None

-- no answer, and none to another since it was asked
abbrev pub is_silent : LaneAnswer → Bool
is_silent a = not (is_real a.reply) && not a.heard

-- Clocks

-- the clocks after an answer: by its date, if it has one. A date past the last moment is taken as that
abbrev pub dated_on : ℕ → Clocks → Option ℕ → Clocks
dated_on since c None = c
dated_on since c (Some date) = dated_by since c (min LAST date)

abbrev pub dated : Clocks → LaneAnswer → Clocks
dated c a = dated_on a.since c (date_of a.reply)

-- and after several, as they came
abbrev pub dated_by_all : Clocks → List LaneAnswer → Clocks
dated_by_all c answers = fold dated c answers

-- a date is ahead of a clock that a reply had told before
abbrev pub is_step : Clocks → Option ℕ → Bool
is_step c None = false
is_step c (Some date) = c.dated && is_ahead c (min LAST date)

-- one of them is
abbrev pub steps : Clocks → List LaneAnswer → Bool
steps c [] = false
steps c (a ∷ rest) = is_step c (date_of a.reply) || steps (dated c a) rest

-- the clocks at later readings, before any date counts
abbrev pub at_reading : Clocks → ℕ → Clocks
at_reading c elapsed = record c { at = moment_at_reading c elapsed }

abbrev pub read : Clocks → ℕ → ℕ → Clocks
read c wall elapsed = walled (at_reading c elapsed) (reading wall)

unfoldable pub clocks_after : WatchState → ℕ → ℕ → Clocks
clocks_after s wall elapsed = if is_none s.begun then first_clocks wall elapsed else dated_by_all (read s.clocks wall elapsed) s.answers

-- the wall has stepped
unfoldable pub has_jumped : WatchState → ℕ → ℕ → Bool
has_jumped s wall elapsed = is_stepped (at_reading s.clocks elapsed) (reading wall)

-- the broker's clock was set on since the last beginning
unfoldable pub has_stepped : WatchState → ℕ → ℕ → Bool
has_stepped s wall elapsed = s.stepped || steps (read s.clocks wall elapsed) s.answers

-- Pace

-- how long an answer took, a day at most
abbrev pub took : ℕ → LaneAnswer → ℕ
took at a = min 86400000 (at - a.since)

-- how long answers take, after one more
abbrev pub paced : ℕ → ℕ → LaneAnswer → ℕ
paced at pace a = if is_real a.reply then max (took at a) (pace - pace / 8) else pace

abbrev pub pace_after : ℕ → ℕ → List LaneAnswer → ℕ
pace_after at pace answers = fold (paced at) pace answers

-- Failures

-- a try that failed since the last clock: its pause begins. One that failed within a second of its asking is not alone
abbrev pub settled_try : ℕ → ℕ → Track → Option Try → Option Try
settled_try margin at x None = None
settled_try margin at x (Some t) =
    if t.failed
    then Some (record t { at = at + pause margin at x t; alone = t.alone && nat_le (rested x.last) at; failed = false })
    else Some t

unfoldable pub settled_track : ℕ → ℕ → Track → Track
settled_track margin at x = record x { attempt = settled_try margin at x x.attempt }

-- how long an entry may wait: any time where it is not pressed
abbrev pub held_try : ℕ → ℕ → Track → Option Try → ℕ
held_try margin at x None = 300000
held_try margin at x (Some t) = if t.pressed then cap margin at x t else 300000

abbrev pub held_by : ℕ → ℕ → Track → ℕ
held_by margin at x = held_try margin at x x.attempt

-- how long later tries are held back while the broker is away, for the n-th time: no longer than any entry that is pressed may
-- wait
unfoldable pub held : ℕ → ℕ → List Track → ℕ → ℕ
held margin at xs n = least (min 300000 (doubled n)) (map (held_by margin at) xs)

-- how often they were held back, and until when they are: once more where that is over, else no longer than now
abbrev pub count_after : ℕ → Presence → ℕ
count_after at p = if nat_le p.hold at then min 20 (p.count + 1) else p.count

unfoldable pub hold_after : ℕ → ℕ → List Track → Presence → ℕ
hold_after margin at xs p =
    if nat_le p.hold at
    then at + held margin at xs (count_after at p)
    else min p.hold (at + held margin at xs p.count)

unfoldable pub held_back : ℕ → ℕ → List Track → List LaneAnswer → Presence → Presence
held_back margin at xs answers p =
    if p.away && list_any is_silent answers
    then record p { count = count_after at p; hold = hold_after margin at xs p }
    else p

-- what the answers since the last clock say of the broker
unfoldable pub presence_after : ℕ → ℕ → List Track → List LaneAnswer → Presence → Presence
presence_after margin at xs answers p = record (held_back margin at xs answers p) { pace = pace_after at p.pace answers }

-- the state after step 1 of a clock
abbrev pub timed : WatchState → ℕ → ℕ → WatchState
timed s wall elapsed = record s { clocks = clocks_after s wall elapsed; stepped = has_stepped s wall elapsed }

-- and after step 2
abbrev pub settled : WatchState → WatchState
settled s = record s {
  tracks = each (λ i. settled_track s.forest.margin s.clocks.at) s.tracks;
  presence = presence_after s.forest.margin s.clocks.at s.tracks s.answers s.presence;
  answers = [];
}
