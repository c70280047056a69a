-- Reached: what each call of the loop does to the log's reader. For `a_turn_tries_the_reader_little`.
use Rattle.std.proofs.Common.{◌≡◌, ◌∙◌, ℕ, ◌+◌, ◌≤◌, Bool, true, false, List, Option, Some, None, Result, ap, subst}
use Rattle.std.specs.declared.alloc.AllocError.{AllocError}
use Rattle.agent_standing.specs.Agent.{Agent}
use Rattle.agent_behind.specs.{Behinds.PassesBehind, declared.behind.Behind.Behind}
use Rattle.state_changes.specs.declared.row.Row.{Row}
use Rattle.base_clients.specs.{Doors.DoorLog, declared.talk.TalkCall.TalkCall}
use Rattle.base_device.specs.declared.tried.Tried.{Tried}
use Rattle.base_disk.specs.State.{DiskState}
use Rattle.vault_inventory.specs.Inventories.{Inventory}
use Rattle.base_log.specs.declared.writing.TheConstants.{MOST_TRIES}
use Rattle.agent_turns.specs.Days.{PassesToOthers}
use Rattle.agent_turns.specs.Neighbours.{Answer, End, Give, GoOn, Hear, NeighbourCall, Needs, Rest, Settle, Step, Thing, Time, Want}
use Rattle.agent_turns.specs.declared.day.EarlyDay.{EarlyDay}
use Rattle.watch_machine.specs.declared.outlook.Next.{Next}
use Rattle.agent_house.specs.{Nexts.HearsNext, declared.house.House.House}
use Rattle.agent_house.specs.Doing.{DoesToHouse, HearsOf, HearsServedIf}
use Rattle.agent_ledger.specs.Keeping.{KeepCall}
use Rattle.agent_words.specs.Outcomes.{Why}
use Rattle.agent_house.proofs.Givers.{asked_for, settled_given}
use Rattle.agent_laws.proofs.Passed.{Passes, by_day, by_day_behind}

-- where the house goes on it is tried 16 times at most, and else left alone
abbrev pub DoesToReader : {S : Type 0} → (S → ℕ) → NeighbourCall → S → S → Type 0
DoesToReader tries (GoOn agent now is_busy) old new = tries new ≤ tries old + MOST_TRIES
DoesToReader tries _ old new = new ≡ old

module _ {S T D K E : Type 0} where
  next_heard : (agent : Agent) (next : Option (Option Next)) (old new : House S T D K E) → HearsNext agent next old new → new.sink ≡ old.sink
  next_heard agent None old new h = ap (λ x. x.sink) h
  next_heard agent (Some next) old new h = ap (λ x. x.sink) h.rest

  heard_of : (agent : Agent) (thing : Thing) (old new : House S T D K E) → HearsOf agent thing old new → new.sink ≡ old.sink
  heard_of agent (Time notes requests next) old new h = next_heard agent next (record old { desk = h.desk }) new h.then
  heard_of agent (Needs (Some shorts)) old new h = ap (λ x. x.sink) h.1
  heard_of agent (Needs None) old new h = ap (λ x. x.sink) h.1
  heard_of agent (Answer entry operation said notes) old new h = ap (λ x. x.sink) h.1
  heard_of agent (End entry end) old new h = ap (λ x. x.sink) h.1
  heard_of agent (Step lead requests) old new h = ap (λ x. x.sink) h.1
  heard_of agent Want old new h = ap (λ x. x.sink) h.1

  served_heard : (is : Bool) (old new : House S T D K E) → HearsServedIf is old new → new.sink ≡ old.sink
  served_heard true old new h = ap (λ x. x.sink) h
  served_heard false old new h = ap (λ x. x.sink) h

module _ {S T D K E : Type 0} (given : S → Option (List ℕ)) (failures tries : S → ℕ) (tried : S → Option (List Tried)) (remaining written : T → Option (List ℕ)) (calls : T → Option (List TalkCall)) (log : D → Option (DoorLog T))
    (does : KeepCall → K → K → Type 0) (rows : K → List Row) (keeps : K → Bool) (path : K → List ℕ) (reads : K → List ℕ → Result Row Why → Type 0) (gives : ℕ → Result (Option Inventory) AllocError → K → Type 0)
    (known : Bool) (state : E → DiskState) where
  abbrev Does : NeighbourCall → House S T D K E → House S T D K E → Type 0
  Does call old new = DoesToHouse given failures tries tried remaining written calls log does rows keeps path reads gives known state call old new

  pub reader_of : (call : NeighbourCall) (old new : House S T D K E) → Does call old new → DoesToReader tries call old.sink new.sink
  reader_of (Hear agent thing) old new h = heard_of agent thing old new h
  reader_of (GoOn agent now is_busy) old new h = subst (λ s. tries new.sink ≤ tries s + MOST_TRIES) (ap (λ x. x.sink) h.look.rest ∙ ap (λ x. x.sink) h.ends.rest) h.attend.few
  reader_of (Give agent now change) old new h = (asked_for does rows keeps path reads gives agent now h.0 change old new h.1.1).sink
  reader_of (Settle agent is_made) old new h =
      ap (λ x. x.sink) h.rest ∙ (settled_given does keeps agent is_made h.heard h.settled h.settles).sink ∙ served_heard _ old h.heard h.served
  reader_of (Rest now rest) old new h = ap (λ x. x.sink) h.0

  -- ---- the same after one more neighbour

  abbrev ToReader : NeighbourCall → House S T D K E → House S T D K E → Type 0
  ToReader call old new = DoesToReader tries call old.sink new.sink

  reads_on : Passes ToReader
  reads_on = record {
    heard = λ a one other x y z h k. k ∙ h;
    settled = λ a thing is_made x y h. h;
    unsettled = λ a is_made x y same. ap (λ (v : House S T D K E). v.sink) same;
    goes = λ a now b c x y h. h;
    gives = λ a now change x y h. h;
    rests = λ now rest x y same. ap (λ (v : House S T D K E). v.sink) same;
  }

  pub reader_of_day : (call : NeighbourCall) (old new : EarlyDay (House S T D K E)) → PassesToOthers Does call old new → DoesToReader tries call old.others.sink new.others.sink
  reader_of_day = by_day Does ToReader reads_on reader_of

  pub reader_of_behind :
      {L : Type 0} (due_by : ℕ → ℕ → L → ℕ) (call : NeighbourCall) (old new : EarlyDay (Behind (House S T D K E) L)) → PassesToOthers (λ (c : NeighbourCall) (a b : Behind (House S T D K E) L). PassesBehind due_by Does c a b) call old new →
      DoesToReader tries call old.others.others.sink new.others.others.sink
  reader_of_behind due_by = by_day_behind due_by Does ToReader reads_on reader_of
