-- Beginnings: how often everything is looked up anew, and how often an entry is after that. Each law is the contract of a public function
-- without a body.
-- Source: this project's own.
use Rattle.std.specs.Prelude.{◌≡◌, ◌⊎◌, ◌==◌, ℕ, ◌+◌, ◌<◌, ◌≤◌, Bool, true, false, not, ◌&&◌, List, [], ◌∷◌, ◌++◌, Option, Some, None, Result, Ok, Err, filter, is_some, length, min}
use Rattle.std.specs.List.{list_any}
use Rattle.plan_forest.specs.declared.forest.TheConstants.{END_MAX}
use Rattle.watch_machine.specs.{declared.clocks.WallOffset.WallOffset, declared.command.WatchOutput.WatchOutput, declared.command.WatchRequest.WatchRequest, declared.event.WatchEvent.WatchEvent, declared.event.Operation.TheVariants.Look}
use Rattle.watch_machine.specs.{declared.event.WatchReply.WatchReply, declared.fault.WatchFault.WatchFault, declared.lanes.Out.Out, declared.notes.BeginReason.BeginReason, declared.notes.BeginReason.TheVariants.Start}
use Rattle.watch_machine.specs.{declared.reading.TheConstants.READING_MAX, declared.track.Try.Try, Beginning.is_called, Refusal.is_same}
use Rattle.watch_machine.specs.declared.event.WatchEvent.TheVariants.{Clock, Looked, Renewed, Need, Begin, Known}
use Rattle.watch_machine.specs.declared.event.WatchReply.TheVariants.{Told, Refused, Busy, Lost}
use Rattle.watch_machine.specs.History.{AllHappen, Changes, Happening, Hands, History, IsReached, Turned, after_all, state_after_all}
use Rattle.watch_machine.specs.State.{WatchState, attempt_at, second, track_at}
use Rattle.watch_machine.specs.Wanted.{is_alive, is_open, is_wanted}
use Rattle.watch_laws.specs.{Load.requests_at_turn, Outage.is_tried}

-- why everything is looked up anew at a turn, None where it is not
abbrev pub why_begun : Result WatchOutput WatchFault → Option BeginReason
why_begun (Ok output) = output.notes.began
why_begun (Err fault) = None

-- a turn is a beginning
abbrev pub IsBeginning : Turned → Type 0
IsBeginning turn = is_some (why_begun turn.result) ≡ true

-- a turn asks for one
abbrev pub is_begin : WatchEvent → Bool
is_begin (Clock wall elapsed) = false
is_begin (Looked i reply terms) = false
is_begin (Renewed i reply) = false
is_begin (Need i until) = false
is_begin Begin = true
is_begin (Known i end renewable) = false

abbrev pub asks_beginning : Turned → Bool
asks_beginning turn = is_begin turn.event

-- the wall shows at a moment what it was not expected to, by more than two seconds: it was expected to show what it showed as it was last
-- set, and as much more as has passed since
abbrev pub HasParted : WallOffset → ℕ → ℕ → Type 0
HasParted set at wall = (set.there + at + 2000 < wall + set.here) ⊎ (wall + set.here + 2000 < set.there + at)

-- so at a clock, by the reading that is handed in: there the wall has jumped
abbrev pub Jumps : WatchState → WatchEvent → WatchState → Type 0
Jumps old (Clock wall elapsed) new = HasParted old.clocks.wall new.clocks.at (min wall READING_MAX)
Jumps old event new = ⊥

-- a change of what is watched asks for none
abbrev pub asks_beginning_at : Happening → Bool
asks_beginning_at (Hands turn) = asks_beginning turn
asks_beginning_at (Changes c) = false

-- between two beginnings lies a jump of the wall, a Begin, or ten minutes (a day is longer)
abbrev pub FewLaw : Type 0
FewLaw =
    (old : WatchState) (first second : Turned) (between : List Happening) → AllHappen old (Hands first ∷ (between ++ Hands second ∷ [])) → IsBeginning first → IsBeginning second →
    Jumps (state_after_all first.state between) second.event second.state ⊎ ((list_any asks_beginning_at between ≡ true) ⊎ (first.state.clocks.at + 600000 ≤ second.state.clocks.at))

-- how many lookups of i go out
abbrev pub is_lookup : ℕ → WatchRequest → Bool
is_lookup i r = r.entry == i && is_same r.operation Look

abbrev pub lookups : ℕ → List Turned → ℕ
lookups i [] = 0
lookups i (turn ∷ turns) = length (filter (is_lookup i) (requests_at_turn turn.result)) + lookups i turns

-- what is to be tried, where it is not pressed, is a lookup: one was refused, and no reply has told since
abbrev pub is_loose_look : Option Try → Bool
is_loose_look None = false
is_loose_look (Some t) = not t.pressed && is_same t.operation Look

-- and how many are out: one at most
abbrev pub looks : ℕ → List Out → ℕ
looks i out = length (filter (λ (q : Out). q.entry == i && is_same q.operation Look) out)

-- an answer of i tells an end that is ahead: s is the state after it
abbrev pub TellsAhead : WatchState → ℕ → WatchReply → Type 0
TellsAhead s i (Told seconds renewable date) = is_alive (second s) (track_at s i) ≡ true
TellsAhead s i (Refused status date) = ⊥
TellsAhead s i Busy = ⊥
TellsAhead s i Lost = ⊥

-- all goes well with i: a clock does not begin anew, and finds i with an end that is ahead or unknown if it is to be asked; and an answer
-- of i tells an end that is ahead, and so does one that is handed in. What others are answered is no matter
abbrev pub GoesWell : ℕ → WatchState → WatchEvent → WatchOutput → Type 0
GoesWell i s (Clock wall elapsed) output = (output.notes.began ≡ None) × (is_tried s i ≡ true → is_open (second s) (track_at s i) ≡ true)
GoesWell i s (Looked j reply terms) output = j ≡ i → TellsAhead s i reply
GoesWell i s (Renewed j reply) output = j ≡ i → TellsAhead s i reply
GoesWell i s (Need j until) output = Unit {0}
GoesWell i s Begin output = Unit {0}
GoesWell i s (Known j end renewable) output = j ≡ i → second s < min END_MAX end

abbrev pub GoesWellAt : ℕ → WatchState → WatchEvent → Result WatchOutput WatchFault → Type 0
GoesWellAt i s event (Ok output) = GoesWell i s event output
GoesWellAt i s event (Err fault) = Unit {0}

abbrev pub GoWell : ℕ → List Turned → Type 0
GoWell i [] = Unit {0}
GoWell i (turn ∷ turns) = GoesWellAt i turn.state turn.event turn.result × GoWell i turns

-- i is needed, as whoever owes a lookup at a beginning
abbrev pub is_needed : WatchState → ℕ → Bool
is_needed s i = is_called s.forest s.tracks s.clocks i

-- a beginning is for the lookup of an entry that is needed: the first whatever its end, since that was handed in; any other where it is ahead or
-- unknown
abbrev pub IsForLookup : Option BeginReason → WatchState → ℕ → Type 0
IsForLookup why s i = (why ≡ Some Start) ⊎ (is_open (second s) (track_at s i) ≡ true)

-- how often i is looked up from a beginning on, and why that is one: before and begun are the states before and after its clock, last is that after
-- all, and n is how many lookups go out. With one that was out before it is never two. Where i is needed, as whoever is wanted is, and the
-- beginning is for its lookup, it owes one from then on, and it is one by the time that none is owed. None goes out where it is not needed, its
-- end is ahead, it owed none before, and none that was refused is to be tried again
pub record IsLookedUpOnce (before begun last : WatchState) (why : Option BeginReason) (i n : ℕ) : Type 0 where
  pub at_most : looks i before.out + n ≤ 1
  pub wanted : is_wanted begun i ≡ true → is_needed begun i ≡ true
  pub owes : is_needed begun i ≡ true → IsForLookup why begun i → (track_at begun i).owes ≡ true
  pub once : is_needed begun i ≡ true → IsForLookup why begun i → (track_at last i).owes ≡ false → looks i before.out + n ≡ 1
  pub never : is_needed begun i ≡ false → is_alive (second begun) (track_at begun i) ≡ true → (track_at before i).owes ≡ false → is_loose_look (attempt_at before i) ≡ false → n ≡ 0

-- from a beginning on, while all goes well with it, an entry that is needed is looked up once, and no other is
abbrev pub OneLookupLaw : Type 0
OneLookupLaw =
    (old : WatchState) (turn : Turned) (after : List Turned) (i : ℕ) → IsReached old → History old (turn ∷ after) → i < length old.forest.entries → IsBeginning turn → GoWell i after →
    IsLookedUpOnce old turn.state (after_all turn.state after) (why_begun turn.result) i (lookups i (turn ∷ after))
