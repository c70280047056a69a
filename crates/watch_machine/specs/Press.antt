-- Press: who has to be asked now and is not being asked yet.
-- Source: this project's own.
use Rattle.std.specs.Prelude.{ℕ, Bool, true, false, not, ◌&&◌, ◌||◌, ◌==◌, if◌then◌else◌, List, Option, Some, None, max}
use Rattle.std.specs.List.{list_any}
use Rattle.plan_forest.specs.{declared.entry.Entry.Entry, Forest.Forest, Forest.entry_at}
use Rattle.watch_machine.specs.{declared.clocks.Clocks.Clocks, declared.track.Track.Track, declared.track.Try.Try, Beginning.is_pressed, Beginning.soon, Clocks.sec, Lines.rested, Margins.has_come, State.WatchState, State.each}
use Rattle.watch_machine.specs.declared.event.Operation.TheVariants.{Look, Renew}
use Rattle.watch_machine.specs.Wanted.{is_alive, need_of, wants}

-- an entry with that need is wanted, its time has come, and it is neither pressed nor out
unfoldable pub is_fresh : ℕ → Entry → Track → ℕ → ℕ → Bool
is_fresh margin e x need now = wants x need && (has_come margin e x now && (not (is_pressed x) && not x.out))

-- the try of an entry that is pressed at a clock: a renewal while its end is ahead, else a lookup
unfoldable pub press : ℕ → Track → Try
press at x = record {
  at = soon at x;
  operation = if is_alive (sec at) x then Renew else Look;
  pressed = true;
  base = Some at;
  fails = 0;
  lost = false;
  alone = false;
  failed = false;
}

-- what is left of a try that is pressed of an entry that is wanted no more: the lookup that it owes, if any
abbrev pub let_go : Track → Try → Option Try
let_go x t = if x.owes then Some (record t { at = max t.at (rested x.last); operation = Look; pressed = false }) else None

-- a try that is not pressed goes on: its entry may be an orphan that FILE puts under a token that has ended, and a reply alone tells
abbrev pub dropped : Track → Option Try → Option Try
dropped x None = None
dropped x (Some t) = if t.pressed then let_go x t else Some t

-- an entry with that need before any round: it is pressed where it has to be asked, and let go where it is wanted no more. One
-- that is out stays as it is
unfoldable pub pressed_track : ℕ → Entry → ℕ → ℕ → Track → Track
pressed_track margin e need at x =
    if is_fresh margin e x need (sec at) then record x { attempt = Some (press at x) }
    else (if wants x need || x.out then x else record x { attempt = dropped x x.attempt })

-- an entry that a round asks
unfoldable pub asked_track : ℕ → Track → Track
asked_track at x = if x.out then x else record x { attempt = Some (press at x) }

abbrev pub track_asked_in : ℕ → List ℕ → ℕ → Track → Track
track_asked_in at round i x = if list_any (λ j. j == i) round then asked_track at x else x

-- the tracks after those are pressed whose time has come, and then those whom a round asks
abbrev pub pressed_alone : Forest → Clocks → List Track → List Track
pressed_alone g c xs = each (λ i. pressed_track g.margin (entry_at g.entries i) (need_of g.entries xs c i) c.at) xs

abbrev pub pressed_tracks : Forest → Clocks → List ℕ → List Track → List Track
pressed_tracks g c round xs = each (track_asked_in c.at round) (pressed_alone g c xs)

-- the state after step 4 of a clock, where round are those whom a round asks
abbrev pub pressed : WatchState → List ℕ → WatchState
pressed s round = record s { tracks = pressed_tracks s.forest s.clocks round s.tracks }
