-- Beginning: when everything is looked up anew, and what that makes of the tries.
-- Source: this project's own.
use Rattle.std.specs.Prelude.{ℕ, ◌+◌, Bool, true, false, not, ◌&&◌, ◌||◌, if◌then◌else◌, List, Option, Some, None, is_none, max, min, nat_le, nat_lt}
use Rattle.std.specs.List.{list_any}
use Rattle.plan_forest.specs.{Carried.carried, Forest.Forest}
use Rattle.watch_machine.specs.{declared.clocks.Clocks.Clocks, declared.event.Operation.TheVariants.Look, declared.notes.BeginReason.BeginReason, declared.track.Track.Track, declared.track.Try.Try, Clocks.sec, Lines.rested}
use Rattle.watch_machine.specs.declared.notes.BeginReason.TheVariants.{Start, Asked, Jump, Day}
use Rattle.watch_machine.specs.State.{WatchState, each, keeps_last_try}
use Rattle.watch_machine.specs.Wanted.{cut_need, is_alive, is_open}

-- a try of an entry that is to be kept alive
abbrev pub is_pressed_try : Option Try → Bool
is_pressed_try None = false
is_pressed_try (Some t) = t.pressed

abbrev pub is_pressed : Track → Bool
is_pressed x = is_pressed_try x.attempt

-- it is pressed, and its end is ahead
abbrev pub is_urgent : ℕ → Track → Bool
is_urgent now x = is_pressed x && is_alive now x

-- the last beginning is so long ago
abbrev pub is_past : ℕ → Option ℕ → ℕ → Bool
is_past span None at = false
is_past span (Some begun) at = nat_le (begun + span) at

-- why everything is looked up anew, None where it is not: ten minutes after the last time at the soonest where a date has shown the
-- broker's clock set on since, and a day after it where nobody is pressed whose end is ahead
unfoldable pub beginning : Option ℕ → Bool → Bool → Bool → ℕ → List Track → Option BeginReason
beginning begun asked stepped jumped at xs =
    if is_none begun then Some Start
    else (if jumped || (stepped && is_past 600000 begun at) then Some Jump
    else (if asked then Some Asked
    else (if is_past 86400000 begun at && not (list_any (is_urgent (sec at)) xs) then Some Day else None)))

-- now, but no sooner than an entry has rested
abbrev pub soon : ℕ → Track → ℕ
soon at x = max at (rested x.last)

-- a lookup that is only owed, from a moment on
abbrev pub owed : ℕ → Try
owed from = record { at = from; operation = Look; pressed = false; base = None; fails = 0; lost = false; alone = false; failed = false }

-- a try that goes out no later than that
abbrev pub hastened : Try → ℕ → Try
hastened t from = record t { at = min t.at from }

abbrev pub sooner_try : ℕ → Option Try → Try
sooner_try from None = owed from
sooner_try from (Some t) = hastened t from

-- an entry owes a lookup, at once; one that is out only owes it
abbrev pub owing_lookup : ℕ → Track → Track
owing_lookup at x = if x.out then record x { owes = true } else record x { owes = true; attempt = Some (sooner_try (soon at x) x.attempt) }

-- an entry at a beginning, the first or a later one, called or not: a lookup is owed of one that is called and has not ended, and at the
-- first also where it has: such an end was handed in as known, before any clock could tell that it is past
unfoldable pub owing : ℕ → Bool → Bool → Track → Track
owing at first called x = if called && (first || is_open (sec at) x) then owing_lookup at x else x

-- an entry whose end is handed in as known: where that is past a lookup is owed
unfoldable pub owing_past : ℕ → Track → Track
owing_past at x = if is_alive (sec at) x then x else owing_lookup at x

-- it is needed by what it carries, or may be by what it carries as the needs are written: until a reply has told the broker's
-- clock, no need counts as past
abbrev pub called_by : Bool → ℕ → ℕ → Bool
called_by dated need written = nat_lt 0 need || (not dated && nat_lt 0 written)

abbrev pub is_called : Forest → List Track → Clocks → ℕ → Bool
is_called g xs c i = called_by c.dated (cut_need g.entries xs c i) (carried g.entries 0 i)

-- nobody is at the top, or has its last try: that of one that was at its top is over
abbrev pub untopped_track : Track → Track
untopped_track x = record x { top = false; last_try = keeps_last_try x }

abbrev pub untopped : List Track → List Track
untopped xs = each (λ i. untopped_track) xs

-- the tracks at a beginning, the first or a later one
abbrev pub owing_all : Forest → Clocks → Bool → List Track → List Track
owing_all g c first xs = each (λ i. owing c.at first (is_called g xs c i)) xs

abbrev pub is_start : BeginReason → Bool
is_start Start = true
is_start Asked = false
is_start Jump = false
is_start Day = false

abbrev pub begun_tracks : Forest → Clocks → Option BeginReason → List Track → List Track
begun_tracks g c None xs = xs
begun_tracks g c (Some why) xs = owing_all g c (is_start why) (untopped xs)

-- a state that begins anew
abbrev pub noted_begun : WatchState → Option BeginReason → WatchState
noted_begun s None = s
noted_begun s (Some why) = record s { begun = Some s.clocks.at; asked = false; stepped = false }

-- the state after step 3 of a clock
abbrev pub begun : WatchState → Option BeginReason → WatchState
begun s why = noted_begun (record s { tracks = begun_tracks s.forest s.clocks why s.tracks }) why
