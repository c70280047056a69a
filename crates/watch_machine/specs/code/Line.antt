-- Line: those that wait for a lane, in the order in which they go out, and how long nothing else is to be done of the entries. No
-- public clause cites it.
-- Source: this project's own.
use Rattle.std.specs.Prelude.{◌≡◌, ℕ, ◌+◌, ◌-◌, ◌<◌, ◌≤◌, ◌==◌, Bool, true, false, if◌then◌else◌, List, [], ◌++◌, Option, Some, None, IsSortedBy, IsTrue, drop, length, map, min, nat_le, take}
use Rattle.std.specs.List.{All, IsDistinct, list_any, range_with_len}
use Rattle.plan_forest.specs.{declared.entry.Entry.Entry, Forest.Forest, Forest.entry_at}
use Rattle.watch_machine.specs.{declared.clocks.Clocks.Clocks, declared.command.WatchCommand.TheVariants.Go, declared.command.WatchOutput.WatchOutput, declared.command.WatchRequest.WatchRequest, declared.lanes.Presence.Presence}
use Rattle.watch_machine.specs.{declared.line.Line.Line, declared.lull.TheConstants.NEVER, declared.sending.Place.Place, declared.track.Track.Track, declared.track.Try.Try, Beginning.beginning, Clocks.sec, Lines.is_due, Lines.ready}
use Rattle.watch_machine.specs.{Margins.time, Press.pressed_alone, Round.opens_some, Step.nothing_noted, code.Places.place_is}
use Rattle.watch_machine.specs.Sending.{IsSendingOrder, is_alone_try, is_before, is_partial, out_at, place, request, sent_in}
use Rattle.watch_machine.specs.Settling.{pace_after, presence_after, settled_track}
use Rattle.watch_machine.specs.State.{WatchState, each, has_last_try, track_in}
use Rattle.watch_machine.specs.Wanted.{believed, is_fixed, least, need_of, wants}
use Rattle.watch_machine.specs.code.Lull.{is_failed_try, is_owed_alone, paced_by, time_due, wait_by}

-- the presence, whatever answers take
abbrev pub calm : Presence → Presence
calm p = record p { pace = 0 }

-- the moment from which on a try may go out, where that was ahead; NEVER where it was not: such a one stands in line
abbrev pub try_left : Presence → ℕ → Track → Option Try → ℕ
try_left p since x None = NEVER
try_left p since x (Some t) = if nat_le (ready p x t) since then NEVER else ready p x t

-- the moment at which something is to be done, but for those in line, of an entry that carries that need
unfoldable pub left_at : ℕ → Entry → ℕ → Presence → ℕ → Track → ℕ
left_at margin e need p since x =
    if is_failed_try x.attempt then 0
    else (if x.out then NEVER
    else (if wants x need then min (try_left p since x x.attempt) (time_due margin e x)
    else (if is_owed_alone x.owes x.attempt then try_left p since x x.attempt else 0)))

abbrev pub left_by : Forest → List Track → (ℕ → ℕ) → Presence → ℕ → ℕ → ℕ
left_by g xs need p since i = left_at g.margin (entry_at g.entries i) (need i) p since (track_in xs i)

abbrev pub left_of : Forest → List Track → Clocks → Presence → ℕ → ℕ
left_of g xs c p i = left_by g xs (need_of g.entries xs c) p c.at i

-- the first of these, and of a number
abbrev pub first_left : ℕ → Forest → List Track → (ℕ → ℕ) → Presence → ℕ → ℕ
first_left last g xs need p since = least last (map (left_by g xs need p since) (range_with_len 0 (length g.entries)))

-- the time of an entry
abbrev pub time_in : Forest → List Track → ℕ → ℕ
time_in g xs i = time g.margin (entry_at g.entries i) (track_in xs i)

-- the entries of places
abbrev pub entries_of : List Place → List ℕ
entries_of qs = map (λ (q : Place). q.entry) qs

-- one of some numbers is i
abbrev pub has : ℕ → List ℕ → Bool
has i is = list_any (λ j. j == i) is

-- the places of all that are due, each once, in the order in which they go out
pub record IsInLine (g : Forest) (p : Presence) (at : ℕ) (xs : List Track) (qs : List Place) : Type 0 where
  pub sorted : IsSortedBy is_before (map place_is qs)
  pub placed : All (λ (q : Place). place_is q ≡ place g p.away (sec at) xs q.entry) qs
  pub distinct : IsDistinct (λ i j. i == j) (entries_of qs)
  pub within : All (λ (q : Place). q.entry < length xs) qs
  pub members : (i : ℕ) → i < length xs → is_due p at (track_in xs i) ≡ has i (entries_of qs)

-- those that are left
abbrev pub rest_of : Line → List Place
rest_of line = drop line.from line.places.items

-- since the clocks of the line all that were due stand in it, are out or have been answered. Of the others something is to be done
-- at `next`, or not before `beyond`; before the second `lasting` they carry as much, no end comes, and no time of one in line
pub record IsLine (g : Forest) (xs : List Track) (p : Presence) (line : Line) : Type 0 where
  pub order : IsInLine g p line.clocks.at xs (rest_of line)
  pub next : (last : ℕ) → last ≤ line.beyond → last ≤ NEVER → first_left last g xs (need_of g.entries xs line.clocks) p line.clocks.at ≡ min last line.next
  pub beyond : (i : ℕ) → i < length g.entries → is_due p line.clocks.at (track_in xs i) ≡ true → line.beyond ≤ left_of g xs line.clocks p i
  pub needed : (i : ℕ) → i < length g.entries → 0 < need_of g.entries xs line.clocks i → line.lasting ≤ need_of g.entries xs line.clocks i
  pub ended : (i : ℕ) → i < length g.entries → sec line.clocks.at < believed (track_in xs i).end → line.lasting ≤ believed (track_in xs i).end
  pub timed : (i : ℕ) → i < length g.entries → is_due p line.clocks.at (track_in xs i) ≡ true → sec line.clocks.at < time_in g xs i → line.lasting ≤ time_in g xs i
  pub there : p.away ≡ false
  pub together : list_any (λ (x : Track). is_alone_try x.attempt) xs ≡ false

-- it is one of these entries and tracks, if it is known
abbrev pub IsKnown : Forest → List Track → Presence → Line → Type 0
IsKnown g xs p line = IsTrue line.known → IsLine g xs (calm p) line

abbrev pub IsLineOf : WatchState → Line → Type 0
IsLineOf s line = IsKnown s.forest s.tracks s.presence line

-- after so many more have gone out
abbrev pub moved : Line → ℕ → Line
moved line n = record line { from = min line.from (length line.places.items) + n }

-- an answer that made a track of the one before it leaves what is known of the others, and nothing is to be asked of its own
pub record IsPlain (before after : Track) : Type 0 where
  pub out : before.out ≡ true
  pub settled : is_failed_try before.attempt ≡ false
  pub loose : is_fixed before ≡ false
  pub still : is_fixed after ≡ false
  pub tried : has_last_try before ≡ false
  pub untried : has_last_try after ≡ false
  pub idle : after.attempt ≡ None

-- the requests of the first n of some places
abbrev pub requests_of : Presence → ℕ → List Track → ℕ → List Place → List WatchRequest
requests_of p now xs n qs = map (λ (q : Place). request p now xs (place_is q)) (take n qs)

-- all that are due stand in this line, and these are the requests of its front
pub record IsFrontOf (g : Forest) (p : Presence) (at : ℕ) (xs : List Track) (rs : List WatchRequest) (qs : List Place) : Type 0 where
  pub order : IsSendingOrder g p at xs (map place_is qs)
  pub front : rs ≡ requests_of p (sec at) xs (length rs) qs

-- the tracks after these have gone out
abbrev pub sent_on : ℕ → List WatchRequest → List Track → List Track
sent_on at requests xs = each (sent_in at requests) xs

-- at a clock that shows c nothing is to be done of the entries but that those who wait go out, and so it waits
pub record IsRoundClock (s : WatchState) (line : Line) (c : Clocks) (stepped jumped : Bool) (until : ℕ) : Type 0 where
  pub settled : each (λ i. settled_track s.forest.margin c.at) s.tracks ≡ s.tracks
  pub presence : presence_after s.forest.margin c.at s.tracks s.answers s.presence ≡ paced_by (pace_after c.at s.presence.pace s.answers) s
  pub reason : beginning s.begun s.asked stepped jumped c.at s.tracks ≡ None
  pub shut : opens_some s.forest s.tracks c ≡ false
  pub pressed : pressed_alone s.forest c s.tracks ≡ s.tracks
  pub order : (pace : ℕ) → IsSendingOrder s.forest (paced_by pace s) c.at s.tracks (map place_is (rest_of line))
  pub together : is_partial (sec c.at) s.tracks ≡ false
  pub waits : (pace n : ℕ) (rs : List WatchRequest) → rs ≡ requests_of (paced_by pace s) (sec c.at) s.tracks n (rest_of line) →
      until ≡ wait_by s.forest c (paced_by pace s) (sent_on c.at rs s.tracks) (need_of s.forest.entries s.tracks c)
  pub kept : (pace n : ℕ) (rs : List WatchRequest) → rs ≡ requests_of (paced_by pace s) (sec c.at) s.tracks n (rest_of line) →
      IsLine s.forest (sent_on c.at rs s.tracks) (calm s.presence) (moved line n)

-- the state after such a clock, at which these go out
abbrev pub served : WatchState → Clocks → Bool → List WatchRequest → WatchState
served s c stepped requests = record s {
  clocks = c;
  presence = paced_by (pace_after c.at s.presence.pace s.answers) s;
  stepped = stepped;
  answers = [];
  tracks = sent_on c.at requests s.tracks;
  out = s.out ++ map (out_at c.at) requests;
}

-- as many have gone out of this line as lanes are free
pub record IsServed (s : WatchState) (line : Line) (c : Clocks) (stepped : Bool) (until : ℕ) (output : WatchOutput) (new : WatchState) : Type 0 where
  pub requests : List WatchRequest
  pub front : requests ≡ requests_of (paced_by (pace_after c.at s.presence.pace s.answers) s) (sec c.at) s.tracks (s.width - length s.out) (rest_of line)
  pub output_is : output ≡ record { command = Go requests until; notes = nothing_noted }
  pub state : new ≡ served s c stepped requests
