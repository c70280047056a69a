-- Keepers: what a house does where whoever keeps its changes has other credentials. Each law is the contract of a public function without a
-- body.
-- Source: this project's own; that a ledger decides the same whatever the credentials are is specs/Decided.
use Rattle.std.specs.Prelude.{◌≡◌, ℕ, Bool, List, Option, None, Some, Result, Ok, Err, map, option_map}
use Rattle.std.specs.declared.alloc.AllocError.{AllocError}
use Rattle.agent_standing.specs.Agent.{Agent}
use Rattle.state_changes.specs.declared.row.Row.{Row}
use Rattle.base_clients.specs.{Doors.DoorLog, declared.talk.TalkCall.TalkCall}
use Rattle.base_device.specs.declared.tried.Tried.{Tried}
use Rattle.base_disk.specs.State.{DiskState}
use Rattle.vault_inventory.specs.Inventories.{Inventory}
use Rattle.agent_turns.specs.{Neighbours.AllCalled, Neighbours.NeighbourCall, declared.change.AgentChange.AgentChange}
use Rattle.agent_turns.specs.Neighbours as turns
use Rattle.agent_turns.specs.declared.change.AgentChange.TheVariants as changes
use Rattle.agent_house.specs.declared.house.House.{House}
use Rattle.agent_ledger.specs.Keeping.{KeepCall, Look, LookUp, MarkServed, Prove, Reload, RestFor, Settle, Take, TryAgain}
use Rattle.agent_words.specs.Outcomes.{Why}
use Rattle.agent_laws.specs.Heard.{Does}
use Rattle.agent_laws.specs.Decided.{IsPairing, rows_beside, what_beside}

-- ---- the other side

module _ (beside : List ℕ → List ℕ) where
  -- the same but for its credentials
  abbrev pub inventory_beside : Inventory → Inventory
  inventory_beside s = record s { credentials = map beside s.credentials }

  abbrev pub agent_beside : Agent → Agent
  agent_beside a = record a { inventory = inventory_beside a.inventory }

  abbrev pub change_beside : AgentChange → AgentChange
  change_beside (changes.Need i until) = changes.Need i until
  change_beside changes.Begin = changes.Begin
  change_beside (changes.Known i end renewable) = changes.Known i end renewable
  change_beside (changes.Serve s) = changes.Serve (inventory_beside s)
  change_beside changes.Kept = changes.Kept

  -- the same call, beside such an agent
  abbrev pub call_beside : NeighbourCall → NeighbourCall
  call_beside (turns.Hear a thing) = turns.Hear (agent_beside a) thing
  call_beside (turns.GoOn a now is_busy) = turns.GoOn (agent_beside a) now is_busy
  call_beside (turns.Give a now change) = turns.Give (agent_beside a) now (option_map change_beside change)
  call_beside (turns.Settle a is_made) = turns.Settle (agent_beside a) is_made
  call_beside (turns.Rest now rest) = turns.Rest now rest

  abbrev pub given_beside : Result (Option Inventory) AllocError → Result (Option Inventory) AllocError
  given_beside (Ok None) = Ok None
  given_beside (Ok (Some s)) = Ok (Some (inventory_beside s))
  given_beside (Err e) = Err e

-- the same house, but for what keeps its changes: its log, its clients, its onlookers and all else are the same
abbrev pub house_beside : {S T D K E : Type 0} → (K → K) → House S T D K E → House S T D K E
house_beside other h = record h { state = option_map other h.state }

-- a client brings a credential that is beside itself: it brings the same on both sides
abbrev pub BringsSame : (List ℕ → List ℕ) → KeepCall → Type 0
BringsSame beside (Take now name w result) = what_beside beside w ≡ w
BringsSame beside (LookUp now name w result) = what_beside beside w ≡ w
BringsSame beside (Prove now result) = Unit {0}
BringsSame beside (Settle result) = Unit {0}
BringsSame beside (Reload now result) = Unit {0}
BringsSame beside (Look now look) = Unit {0}
BringsSame beside MarkServed = Unit {0}
BringsSame beside (RestFor now rest) = Unit {0}
BringsSame beside (TryAgain now is_asked news) = Unit {0}

abbrev pub AsksSame : {K : Type 0} → (List ℕ → List ℕ) → (KeepCall → K → K → Type 0) → KeepCall → K → K → Type 0
AsksSame beside does call old new = BringsSame beside call × does call old new

-- whoever keeps changes has another beside it, with the same entries but for credentials. Asked for the same, the other answers as the one
-- does, and is beside it afterwards; and each gives what is served then
pub record AreKeepersBeside {K : Type 0} (does : KeepCall → K → K → Type 0) (rows : K → List Row) (keeps : K → Bool) (path : K → List ℕ) (reads : K → List ℕ → Result Row Why → Type 0)
    (gives : ℕ → Result (Option Inventory) AllocError → K → Type 0) (beside : List ℕ → List ℕ) (other : K → K) : Type 0 where
  pub pairing : IsPairing beside
  pub answers : (call : KeepCall) (old new : K) → AsksSame beside does call old new → does call (other old) (other new)
  pub entries : (k : K) → rows (other k) ≡ rows_beside beside (rows k)
  pub still : (k : K) → keeps (other k) ≡ keeps k
  pub place : (k : K) → path (other k) ≡ path k
  pub tables : (k : K) (table : List ℕ) (row : Result Row Why) → reads k table row → reads (other k) table row
  pub served : (now : ℕ) (given : Result (Option Inventory) AllocError) (k : K) → gives now given k → gives now (given_beside beside given) (other k)

-- ---- a house

module _ {S T D K E : Type 0} (given : S → Option (List ℕ)) (failures tries : S → ℕ) (tried : S → Option (List Tried)) (remaining written : T → Option (List ℕ)) (calls : T → Option (List TalkCall)) (log : D → Option (DoorLog T))
    (does : KeepCall → K → K → Type 0) (rows : K → List Row) (keeps : K → Bool) (path : K → List ℕ) (reads : K → List ℕ → Result Row Why → Type 0) (gives : ℕ → Result (Option Inventory) AllocError → K → Type 0)
    (known : Bool) (state : E → DiskState) where
  -- a call, where this is what it asks of whoever keeps changes
  abbrev pub DoesBy : (KeepCall → K → K → Type 0) → NeighbourCall → House S T D K E → House S T D K E → Type 0
  DoesBy asks call old new = Does given failures tries tried remaining written calls log asks rows keeps path reads gives known state call old new

  -- where the house does that, and clients bring the same, the one beside it may do the same. (The file of the ends has a fingerprint of each
  -- credential.)
  abbrev pub CallBeside : Type 0
  CallBeside =
      (beside : List ℕ → List ℕ) (other : K → K) → AreKeepersBeside does rows keeps path reads gives beside other → (call : NeighbourCall) (old new : House S T D K E) → old.ends ≡ None →
      DoesBy (AsksSame beside does) call old new → DoesBy does (call_beside beside call) (house_beside other old) (house_beside other new)

  -- so it is in each run of calls
  abbrev pub RunBeside : Type 0
  RunBeside =
      (beside : List ℕ → List ℕ) (other : K → K) → AreKeepersBeside does rows keeps path reads gives beside other → (calls_made : List NeighbourCall) (old new : House S T D K E) → old.ends ≡ None →
      AllCalled (DoesBy (AsksSame beside does)) calls_made old new → AllCalled (DoesBy does) (map (call_beside beside) calls_made) (house_beside other old) (house_beside other new)
