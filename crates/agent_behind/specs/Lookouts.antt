-- Lookouts: what a lookout does in a turn: answers come off its lanes, lookups go out, and an end that is known is given.
-- Source: this project's own.
use Rattle.std.specs.Prelude.{◌≡◌, ◌⊎◌, ℕ, ◌-◌, ◌==◌, Bool, true, false, not, ◌&&◌, if◌then◌else◌, List, [], ◌∷◌, ◌++◌, Option, Some, None, IfSome, length, nat_lt}
use Rattle.agent_standing.specs.Agent.{Agent}
use Rattle.vault_asking.specs.{Sending.Lanes, Told.reply_as}
use Rattle.base_clock.specs.declared.reading.Reading.{Reading}
use Rattle.vault_lanes.specs.{Out.AreThereAt, Out.IsParted, declared.lanes.Answered.Answered}
use Rattle.agent_turns.specs.declared.change.AgentChange.{AgentChange}
use Rattle.agent_turns.specs.declared.change.AgentChange.TheVariants as changes
use Rattle.plan_forest.specs.Forest.{Forest}
use Rattle.watch_machine.specs.{declared.event.WatchEvent.WatchEvent, declared.event.Operation.TheVariants.Look, declared.event.WatchReply.WatchReply, declared.event.WatchReply.TheVariants.Lost, State.WatchState}
use Rattle.watch_machine.specs.declared.event.WatchEvent.TheVariants.{Clock, Looked, Renewed, Need, Begin, Known}
use Rattle.plan_spread.specs.Behind.{margin_in_front}
use Rattle.watch_scout.specs.{Hearing.event_of, Hearing.freed, Looking.lead, Looking.next_moment, State.ScoutState, State.opened_scout}
use Rattle.agent_behind.specs.Lookups.{AreLookedUp, side}

-- what a lookout is: the number of its agent's name; how many lanes it has, the port that their requests name, and what is out on them; the
-- lanes themselves, which know when they have to be looked at again; its scout, unless that is to be made; the answers that are there; and
-- the moment of the clock that never steps at which a look is next due, in milliseconds
pub record Ahead (L : Type 0) : Type 0 where
  pub number : ℕ
  pub width : ℕ
  pub port : ℕ
  pub lanes : Lanes
  pub own : L
  pub scout : Option ScoutState
  pub heard : List Answered
  pub due : ℕ

-- it is the same one
pub record IsSameLookout {L : Type 0} (old new : Ahead L) : Type 0 where
  pub number : new.number ≡ old.number
  pub width : new.width ≡ old.width
  pub port : new.port ≡ old.port

-- ---- its scout

-- there is one, made beside as many entries
abbrev pub is_beside : Forest → Option ScoutState → Bool
is_beside g None = false
is_beside g (Some s) = length s.seen == length g.entries

-- a new one, unless memory is wanting for it
abbrev pub IsMade : Forest → ℕ → ℕ → Option ScoutState → Type 0
IsMade g number width None = Unit {0}
IsMade g number width (Some s) = s ≡ opened_scout g (margin_in_front g.margin number) width

-- for a new one all that is out and all that was heard is given up
pub record IsAnew {L : Type 0} (g : Forest) (old new : Ahead L) : Type 0 where
  pub same : IsSameLookout old new
  pub lanes : new.lanes ≡ record old.lanes { out = [] }
  pub heard : new.heard ≡ []
  pub scout : IsMade g old.number old.width new.scout

abbrev pub StandsBeside : {L : Type 0} → Forest → Ahead L → Ahead L → Type 0
StandsBeside g old new = ((is_beside g old.scout ≡ true) × (new ≡ old)) ⊎ IsAnew g old new

-- ---- answers come off its lanes

-- those that are there
pub record HaveComeOff {L : Type 0} (now : ℕ) (old new : Ahead L) : Type 0 where
  pub same : IsSameLookout old new
  pub parted : IsParted old.lanes.out new.heard new.lanes.out
  pub there : IfSome old.lanes.behind (λ _. AreThereAt now old.lanes.out new.heard new.lanes.out)
  pub lanes : new.lanes ≡ record old.lanes { out = new.lanes.out }

-- or none, where memory is wanting
pub record NoneComesOff {L : Type 0} (old new : Ahead L) : Type 0 where
  pub same : IsSameLookout old new
  pub heard : new.heard ≡ old.heard
  pub lanes : new.lanes ≡ old.lanes

-- none waits to be handed in
abbrev pub none_waits : {L : Type 0} → Ahead L → Bool
none_waits l = length l.heard == 0

-- none comes off as long as one does
abbrev pub ComesOff : {L : Type 0} → ℕ → Ahead L → Ahead L → Type 0
ComesOff now old new = ((none_waits old ≡ false) × (new ≡ old)) ⊎ ((none_waits old ≡ true) × (HaveComeOff now old new ⊎ NoneComesOff old new))

pub record AnswersComeOff {L : Type 0} (now : ℕ) (old new : Ahead L) : Type 0 where
  pub comes : ComesOff now old new
  pub scout : new.scout ≡ old.scout

-- ---- lookups go out

-- as many at most as lanes are free
abbrev pub LooksBy : Agent → Reading → ℕ → ℕ → Option ScoutState → Lanes → Option ScoutState → Lanes → Type 0
LooksBy a r port free None old scout new = (scout ≡ None) × (new ≡ old)
LooksBy a r port free (Some s) old scout new = (t : ScoutState) × ((scout ≡ Some t) × AreLookedUp port a r free 0 (side s old) (side t new))

pub record LooksOut {L : Type 0} (a : Agent) (r : Reading) (old new : Ahead L) : Type 0 where
  pub same : IsSameLookout old new
  pub heard : new.heard ≡ old.heard
  pub looks : LooksBy a r old.port (old.width - length old.lanes.out) old.scout old.lanes new.scout new.lanes

-- ---- a turn

-- the next look is due at the scout's moment, as the clock that is handed in shows it; without a scout at once
abbrev pub due_after : WatchState → ℕ → Option ScoutState → ℕ
due_after w now None = now
due_after w now (Some s) = next_moment s w 18446744073709551615 - w.clocks.phase

-- and so long before its time an entry is looked up, in milliseconds; without a scout none is
abbrev pub lead_by : WatchState → Option ScoutState → ℕ
lead_by w None = 0
lead_by w (Some s) = lead s w

-- all of that; and whether an answer waits to be handed in then
pub record GoesAhead {L : Type 0} (a : Agent) (r : Reading) (old : Ahead L) (waits : Bool) (new : Ahead L) : Type 0 where
  pub beside : Ahead L
  pub stands : StandsBeside a.machine.forest old beside
  pub off : Ahead L
  pub comes : AnswersComeOff r.elapsed beside off
  pub looked : Ahead L
  pub looks : LooksOut a r off looked
  pub due : new ≡ record looked { due = due_after a.machine r.elapsed looked.scout }
  pub waits_is : waits ≡ not (none_waits new)

-- ---- an end is given

-- what an event is as a change, where it is an end that is known
abbrev pub change_of_event : WatchEvent → Option AgentChange
change_of_event (Clock wall elapsed) = None
change_of_event (Looked i reply terms) = None
change_of_event (Renewed i reply) = None
change_of_event (Need i until) = None
change_of_event Begin = None
change_of_event (Known i end renewable) = Some (changes.Known i end renewable)

abbrev pub change_of : Option WatchEvent → Option AgentChange
change_of None = None
change_of (Some event) = change_of_event event

-- what the answer to a lookup says; where memory is wanting to read it, it counts as lost
abbrev pub IsReplyTo : Agent → Answered → WatchReply → Type 0
IsReplyTo a x reply = (reply ≡ reply_as Look a.inventory x.index x.answer) ⊎ (reply ≡ Lost)

-- it is of an entry that is served, and the scout is beside what is served
abbrev pub is_of_served : Agent → ScoutState → ℕ → Bool
is_of_served a s i = nat_lt i (length a.machine.forest.entries) && (length s.seen == length a.machine.forest.entries)

abbrev pub event_handed : Agent → ScoutState → ℕ → WatchReply → Option WatchEvent
event_handed a s i reply = if is_of_served a s i then event_of s a.machine i reply else None

abbrev pub scout_handed : Agent → ScoutState → ℕ → ScoutState
scout_handed a s i = if is_of_served a s i then freed s i else s

-- an answer is handed to the scout, which says what the agent is to be told
pub record IsHandedIn (a : Agent) (x : Answered) (s : ScoutState) (event : Option WatchEvent) (t : ScoutState) : Type 0 where
  pub reply : WatchReply
  pub reply_is : IsReplyTo a x reply
  pub event_is : event ≡ event_handed a s x.index reply
  pub scout : t ≡ scout_handed a s x.index

abbrev pub HandsInBy : Agent → Answered → Option ScoutState → Option AgentChange → Option ScoutState → Type 0
HandsInBy a x None change scout = (change ≡ None) × (scout ≡ None)
HandsInBy a x (Some s) change scout = (t : ScoutState) × ((scout ≡ Some t) × ((event : Option WatchEvent) × (IsHandedIn a x s event t × (change ≡ change_of event))))

-- the last of the answers that are there is handed in
pub record HandsIn {L : Type 0} (a : Agent) (old : Ahead L) (change : Option AgentChange) (new : Ahead L) : Type 0 where
  pub answer : Answered
  pub last : old.heard ≡ new.heard ++ answer ∷ []
  pub scout : HandsInBy a answer old.scout change new.scout
  pub rest : new ≡ record old { heard = new.heard; scout = new.scout }

-- where there is one
pub record HasNone {L : Type 0} (old : Ahead L) (change : Option AgentChange) (new : Ahead L) : Type 0 where
  pub heard : old.heard ≡ []
  pub gives_none : change ≡ None
  pub same : new ≡ old

abbrev pub GivesAhead : {L : Type 0} → Agent → Ahead L → Option AgentChange → Ahead L → Type 0
GivesAhead a old change new = HasNone old change new ⊎ HandsIn a old change new
