-- Behinds: neighbours, and one more, who looks entries up before their times for an agent that stands behind another.
-- Source: this project's own.
use Rattle.std.specs.Prelude.{◌≡◌, ◌⊎◌, ℕ, Bool, true, false, ◌||◌, if◌then◌else◌, List, Option, Some, None, option_map}
use Rattle.std.specs.List.{list_any}
use Rattle.agent_standing.specs.Agent.{Agent}
use Rattle.base_clock.specs.{Rests.rest_until, Rests.shorter, declared.reading.Reading.Reading}
use Rattle.agent_turns.specs.Neighbours.{Answer, End, Give, GoOn, Hear, NeighbourCall, Needs, Rest, Settle, Step, Thing, Time, Want}
use Rattle.agent_turns.specs.declared.change.AgentChange.{AgentChange}
use Rattle.agent_turns.specs.declared.change.AgentChange.TheVariants as changes
use Rattle.watch_machine.specs.{Refusal.is_same, State.WatchState, declared.command.WatchRequest.WatchRequest, declared.event.Operation.TheVariants.Renew}
use Rattle.agent_behind.specs.{declared.behind.Behind.Behind, declared.behind.Giver.Giver}
use Rattle.agent_behind.specs.Lookouts.{Ahead, GivesAhead, GoesAhead, lead_by}
use Rattle.agent_behind.specs.declared.behind.Giver.TheVariants.{Others, OthersServe, Lookout}

-- ---- the lookout, where there is one

abbrev pub OneGoesAhead : {L : Type 0} → Agent → Reading → Option (Ahead L) → Bool → Option (Ahead L) → Type 0
OneGoesAhead a now None waits new = (waits ≡ false) × (new ≡ None)
OneGoesAhead {L} a now (Some l) waits new = (m : Ahead L) × ((new ≡ Some m) × GoesAhead a now l waits m)

abbrev pub OneGives : {L : Type 0} → Agent → Option (Ahead L) → Option AgentChange → Option (Ahead L) → Type 0
OneGives a None change new = (change ≡ None) × (new ≡ None)
OneGives {L} a (Some l) change new = (m : Ahead L) × ((new ≡ Some m) × GivesAhead a l change m)

-- until its lanes have to be looked at, or its next look is due
abbrev pub rest_ahead : {L : Type 0} → (ℕ → ℕ → L → ℕ) → ℕ → Option (Ahead L) → Option ℕ
rest_ahead due_by now None = None
rest_ahead due_by now (Some l) = rest_until (Some (due_by now l.due l.own)) now

-- it looks an entry up so long before its time
abbrev pub lead_ahead : {L : Type 0} → WatchState → Option (Ahead L) → Option ℕ
lead_ahead w None = None
lead_ahead w (Some l) = Some (lead_by w l.scout)

-- beside another inventory it has no scout yet
abbrev pub left_alone : {L : Type 0} → Ahead L → Ahead L
left_alone l = record l { scout = None }

abbrev pub beside_another : {L : Type 0} → Bool → Option (Ahead L) → Option (Ahead L)
beside_another is_made l = if is_made then option_map left_alone l else l

-- ---- what a call does

-- whose a change is that the others give
abbrev pub giver_of : AgentChange → Giver
giver_of (changes.Need i until) = Others
giver_of changes.Begin = Others
giver_of (changes.Known i end renewable) = Others
giver_of (changes.Serve s) = OthersServe
giver_of changes.Kept = Others

-- and that the lookout gives
abbrev pub giver_of_known : AgentChange → Giver
giver_of_known (changes.Need i until) = Others
giver_of_known changes.Begin = Others
giver_of_known (changes.Known i end renewable) = Lookout i end
giver_of_known (changes.Serve s) = Others
giver_of_known changes.Kept = Others

abbrev pub giver_ahead : Option AgentChange → Giver
giver_ahead None = Others
giver_ahead (Some change) = giver_of_known change

-- the others give a change, or else the lookout may
abbrev pub OthersGive : {N L : Type 0} → (NeighbourCall → N → N → Type 0) → Agent → Reading → Option AgentChange → Behind N L → Behind N L → Type 0
OthersGive does a now None old new = ⊥
OthersGive does a now (Some change) old new = does (Give a now (Some change)) old.others new.others × ((new.lookout ≡ old.lookout) × (new.giver ≡ giver_of change))

abbrev pub LookoutGives : {N L : Type 0} → (NeighbourCall → N → N → Type 0) → Agent → Reading → Option AgentChange → Behind N L → Behind N L → Type 0
LookoutGives does a now change old new = does (Give a now None) old.others new.others × (OneGives a old.lookout change new.lookout × (new.giver ≡ giver_ahead change))

-- the others hear only of their own changes whether they were made; an end that the lookout gave is one that they hear of
abbrev pub SettlesBy : {N L : Type 0} → (NeighbourCall → N → N → Type 0) → Giver → Agent → Bool → Behind N L → Behind N L → Type 0
SettlesBy does Others a is_made old new = does (Settle a is_made) old.others new.others × (new.lookout ≡ old.lookout)
SettlesBy does OthersServe a is_made old new = does (Settle a is_made) old.others new.others × (new.lookout ≡ beside_another is_made old.lookout)
SettlesBy does (Lookout i end) a is_made old new = does (Hear a (End i end)) old.others new.others × (new.lookout ≡ old.lookout)

-- the requests that go out, where the time was handed in
abbrev pub requests_at : Thing → Option (List WatchRequest)
requests_at (Answer entry operation said notes) = None
requests_at (Time notes requests next) = Some requests
requests_at (Needs shorts) = None
requests_at (End entry end) = None
requests_at (Step lead requests) = None
requests_at Want = None

-- they hear that the agent steps in with these, so long ahead, where it does
abbrev pub renews : List WatchRequest → Bool
renews requests = list_any (λ (r : WatchRequest). is_same r.operation Renew) requests

abbrev pub StepsIf : {N : Type 0} → (NeighbourCall → N → N → Type 0) → Bool → Agent → ℕ → List WatchRequest → N → N → Type 0
StepsIf does true a lead requests old new = does (Hear a (Step lead requests)) old new
StepsIf does false a lead requests old new = new ≡ old

abbrev pub StepsBy : {N : Type 0} → (NeighbourCall → N → N → Type 0) → Agent → Option (List WatchRequest) → Option ℕ → N → N → Type 0
StepsBy does a None lead old new = new ≡ old
StepsBy does a (Some requests) None old new = new ≡ old
StepsBy does a (Some requests) (Some lead) old new = StepsIf does (renews requests) a lead requests old new

pub record HearsBy {N L : Type 0} (does : NeighbourCall → N → N → Type 0) (a : Agent) (thing : Thing) (old new : Behind N L) : Type 0 where
  pub others : N
  pub hears : does (Hear a thing) old.others others
  pub steps : StepsBy does a (requests_at thing) (lead_ahead a.machine old.lookout) others new.others
  pub rest : new ≡ record old { others = new.others }

abbrev pub PassesBehind : {N L : Type 0} → (ℕ → ℕ → L → ℕ) → (NeighbourCall → N → N → Type 0) → NeighbourCall → Behind N L → Behind N L → Type 0
PassesBehind due_by does (Hear a thing) old new = HearsBy does a thing old new
PassesBehind due_by does (GoOn a now is_busy) old new =
    (theirs : Bool) × (does (GoOn a now theirs) old.others new.others × ((waits : Bool) × (OneGoesAhead a now old.lookout waits new.lookout × (is_busy ≡ theirs || waits))))
PassesBehind due_by does (Give a now change) old new = OthersGive does a now change old new ⊎ LookoutGives does a now change old new
PassesBehind due_by does (Settle a is_made) old new = SettlesBy does old.giver a is_made old new
PassesBehind due_by does (Rest now rest) old new = (new ≡ old) × ((theirs : Option ℕ) × (does (Rest now theirs) old.others old.others × (rest ≡ shorter theirs (rest_ahead due_by now old.lookout))))
