-- Tried: how often the log's reader is tried in a turn. Each law is the contract of a public function without a body.
-- Source: this project's own.
use Rattle.std.specs.Prelude.{◌+◌, ◌≤◌, ℕ, Bool, List, Option, Result}
use Rattle.std.specs.declared.alloc.AllocError.{AllocError}
use Rattle.agent_behind.specs.{Behinds.PassesBehind, declared.behind.Behind.Behind}
use Rattle.state_changes.specs.declared.row.Row.{Row}
use Rattle.base_clients.specs.{Doors.DoorLog, declared.talk.TalkCall.TalkCall}
use Rattle.base_device.specs.declared.tried.Tried.{Tried}
use Rattle.base_disk.specs.State.{DiskState}
use Rattle.vault_inventory.specs.Inventories.{Inventory}
use Rattle.base_log.specs.declared.writing.TheConstants.{MOST_TRIES}
use Rattle.agent_turns.specs.{Days.PassesToOthers, Calls.TurnCalls, Neighbours.NeighbourCall, Turns.ServingTurn, declared.day.EarlyDay.EarlyDay}
use Rattle.agent_house.specs.{Doing.DoesToHouse, declared.house.House.House}
use Rattle.agent_ledger.specs.Keeping.{KeepCall}
use Rattle.agent_words.specs.Outcomes.{Why}

-- in a turn of neighbours to which each call does this, the reader that they hold is tried 16 times at most
abbrev pub IsTriedLittle : {S N : Type 0} → (NeighbourCall → N → N → Type 0) → (S → ℕ) → (N → S) → Type 0
IsTriedLittle {S} {N} does tries reader = (t : ServingTurn) (old new : N) → TurnCalls does t old new → tries (reader new) ≤ tries (reader old) + MOST_TRIES

-- these may be a house; a house, and one more, who asks that everything is looked up anew; or both of them, and one who looks ahead
module _ {S T D K E : Type 0} (given : S → Option (List ℕ)) (failures tries : S → ℕ) (tried : S → Option (List Tried)) (remaining written : T → Option (List ℕ)) (calls : T → Option (List TalkCall)) (log : D → Option (DoorLog T))
    (does : KeepCall → K → K → Type 0) (rows : K → List Row) (keeps : K → Bool) (path : K → List ℕ) (reads : K → List ℕ → Result Row Why → Type 0) (gives : ℕ → Result (Option Inventory) AllocError → K → Type 0)
    (known : Bool) (state : E → DiskState) where
  abbrev pub TriesLaw : Type 0
  TriesLaw = IsTriedLittle (λ (call : NeighbourCall) (old new : House S T D K E). DoesToHouse given failures tries tried remaining written calls log does rows keeps path reads gives known state call old new) tries (λ (h : House S T D K E). h.sink)

  abbrev pub DayTriesLaw : Type 0
  DayTriesLaw = IsTriedLittle (λ (call : NeighbourCall) (old new : EarlyDay (House S T D K E)). PassesToOthers (DoesToHouse given failures tries tried remaining written calls log does rows keeps path reads gives known state) call old new) tries (λ (d : EarlyDay (House S T D K E)). d.others.sink)

  abbrev pub BehindTriesLaw : {L : Type 0} → (ℕ → ℕ → L → ℕ) → Type 0
  BehindTriesLaw {L} due_by =
      IsTriedLittle (λ (call : NeighbourCall) (old new : EarlyDay (Behind (House S T D K E) L)). PassesToOthers (λ (c : NeighbourCall) (a b : Behind (House S T D K E) L). PassesBehind due_by (DoesToHouse given failures tries tried remaining written calls log does rows keeps path reads gives known state) c a b) call old new) tries
      (λ (d : EarlyDay (Behind (House S T D K E) L)). d.others.others.sink)
