-- Sending: which requests go out at a clock, and how long each may take.
-- Source: this project's own.
use Rattle.std.specs.Prelude.{◌≡◌, ◌==◌, ℕ, ◌-◌, ◌*◌, ◌^◌, Bool, true, false, ◌&&◌, ◌||◌, if◌then◌else◌, List, ◌++◌, Option, Some, None, IsPermutation, IsSortedBy, filter, length, map, max, min, nat_lt, take}
use Rattle.std.specs.List.{list_any, range_with_len}
use Rattle.plan_forest.specs.{declared.entry.Entry.Entry, Forest.Forest, Forest.entry_at}
use Rattle.watch_machine.specs.{declared.command.Patience.Patience, declared.command.WatchRequest.WatchRequest, declared.event.Operation.TheVariants.Look, declared.lanes.Out.Out, declared.lanes.Presence.Presence, declared.track.Track.Track}
use Rattle.watch_machine.specs.{declared.track.Try.Try, Clocks.sec, Wanted.is_open}
use Rattle.watch_machine.specs.declared.command.Patience.TheVariants.{Full, AtMost}
use Rattle.watch_machine.specs.Lines.{is_due, is_first, part, rank}
use Rattle.watch_machine.specs.State.{WatchState, each, track_in}

-- where an entry stands in the line
pub record Place : Type 0 where
  pub part : ℕ
  pub rank : ℕ
  pub entry : ℕ

abbrev pub place_of : ℕ → Entry → Bool → ℕ → ℕ → Track → Option Try → Place
place_of margin e away now i x None = record { part = 0; rank = 0; entry = i }
place_of margin e away now i x (Some t) = record { part = part margin e away now x t; rank = rank x t; entry = i }

-- by part, then by rank, and of equal ones the lower index
abbrev pub is_before : Place → Place → Bool
is_before p q = nat_lt p.part q.part || (p.part == q.part && (nat_lt p.rank q.rank || (p.rank == q.rank && nat_lt p.entry q.entry)))

abbrev pub place : Forest → Bool → ℕ → List Track → ℕ → Place
place g away now xs i = place_of g.margin (entry_at g.entries i) away now i (track_in xs i) (track_in xs i).attempt

-- those of some tracks that may go out now, by index
abbrev pub due : Forest → Presence → ℕ → List Track → List Place
due g p at xs = map (place g p.away (sec at) xs) (filter (λ i. is_due p at (track_in xs i)) (range_with_len 0 (length xs)))

-- the same, in the order in which they go out
pub record IsSendingOrder (g : Forest) (p : Presence) (at : ℕ) (xs : List Track) (line : List Place) : Type 0 where
  pub all : IsPermutation (due g p at xs) line
  pub in_order : IsSortedBy is_before line

-- those of its front for whom lanes are free
abbrev pub IsPicked : Forest → Presence → ℕ → List Track → ℕ → List Place → Type 0
IsPicked g p at xs lanes picked = (line : List Place) × (IsSendingOrder g p at xs line × (picked ≡ take lanes line))

-- a request of this entry had no answer while others were answered, and its end is ahead or unknown
abbrev pub is_alone_try : Option Try → Bool
is_alone_try None = false
is_alone_try (Some t) = t.alone

abbrev pub is_alone : ℕ → Track → Bool
is_alone now x = is_alone_try x.attempt && is_open now x

-- somebody's was
unfoldable pub is_partial : ℕ → List Track → Bool
is_partial now xs = list_any (is_alone now) xs

-- how long a request may take: a quarter of a second for a first try while the broker is away; where somebody is alone twice what
-- answers take, but at least a second, doubled by each failure after the first; else as long as it takes
unfoldable pub patience : Bool → Bool → ℕ → Try → Patience
patience away partial pace t =
    if away && is_first t then AtMost 250
    else (if partial then AtMost (max 1000 (2 * pace) * 2 ^ (min 20 t.fails - 1)) else Full)

abbrev pub request_of : Bool → Bool → ℕ → ℕ → Option Try → WatchRequest
request_of away partial pace i None = record { entry = i; operation = Look; patience = Full }
request_of away partial pace i (Some t) = record { entry = i; operation = t.operation; patience = patience away partial pace t }

unfoldable pub request : Presence → ℕ → List Track → Place → WatchRequest
request p now xs place = request_of p.away (is_partial now xs) p.pace place.entry (track_in xs place.entry).attempt

-- a request as it is out
abbrev pub out_at : ℕ → WatchRequest → Out
out_at at r = record { entry = r.entry; operation = r.operation; since = at; heard = false }

-- an entry whose request goes out
abbrev pub sent_track : ℕ → Track → Track
sent_track at x = record x { last = Some at; out = true }

abbrev pub sent_in : ℕ → List WatchRequest → ℕ → Track → Track
sent_in at requests i x = if list_any (λ (r : WatchRequest). r.entry == i) requests then sent_track at x else x

-- the state after these requests have gone out
abbrev pub sent : WatchState → List WatchRequest → WatchState
sent s requests = record s { tracks = each (sent_in s.clocks.at requests) s.tracks; out = s.out ++ map (out_at s.clocks.at) requests }

-- these requests go out at a clock: of those that are due as many as lanes are free
pub record IsGoing (g : Forest) (p : Presence) (at : ℕ) (xs : List Track) (lanes : ℕ) (requests : List WatchRequest) : Type 0 where
  pub picked : List Place
  pub is_picked : IsPicked g p at xs lanes picked
  pub requests_are : requests ≡ map (request p (sec at) xs) picked

-- step 5 of a clock
abbrev pub RequestsAreSent : WatchState → List WatchRequest → WatchState → Type 0
RequestsAreSent s requests new = IsGoing s.forest s.presence s.clocks.at s.tracks (s.width - length s.out) requests × (new ≡ sent s requests)
