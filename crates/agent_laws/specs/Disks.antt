-- Disks: how often disks are called in a turn. Each law is the contract of a public function without a body.
-- Source: this project's own; which call of the loop does what is specs/Doing.
use Rattle.std.specs.Prelude.{◌≡◌, ◌⊎◌, ◌*◌, ◌≤◌, ℕ, Bool, true, List, [], ◌∷◌, ◌++◌, Option, Some, None, IfSome, Result, length}
use Rattle.std.specs.{List.sum_by, declared.alloc.AllocError.AllocError}
use Rattle.agent_standing.specs.Agent.{Agent}
use Rattle.vault_asking.specs.Sending.{Lanes}
use Rattle.agent_behind.specs.{Behinds.PassesBehind, declared.behind.Behind.Behind}
use Rattle.state_changes.specs.declared.row.Row.{Row}
use Rattle.base_clients.specs.{Doors.DoorLog, declared.talk.TalkCall.TalkCall}
use Rattle.base_device.specs.declared.tried.Tried.{Tried}
use Rattle.base_disk.specs.{State.DiskState, declared.fault.DiskFault.DiskFault}
use Rattle.agent_ends.specs.{Files.FileIsTried, Files.is_file_due, declared.file.EndsFile.EndsFile}
use Rattle.vault_inventory.specs.Inventories.{Inventory}
use Rattle.state_secrets.specs.declared.looking.TheConstants.{MOST_LOOKS}
use Rattle.state_secrets.specs.Stamps.{FileCall, Opened, Stamped}
use Rattle.agent_turns.specs.{Changes.given_by, Days.PassesToOthers, Calls.TurnCalls, Neighbours.NeighbourCall, Turns.ServingTurn, declared.day.EarlyDay.EarlyDay}
use Rattle.agent_house.specs.{Doing.DoesToHouse, declared.house.House.House}
use Rattle.agent_ledger.specs.{Ledgers.DoesLedger, declared.late.Late.Late, declared.ledger.Ledger.Ledger}
use Rattle.agent_ledger.specs.Keeping.{KeepCall, Look, LookUp, MarkServed, Prove, Reload, RestFor, Settle, Take, TryAgain}
use Rattle.agent_ledger.specs.Lates.{DoesLate, GivesLate, ReadsLate, is_open, late_path, late_rows}
use Rattle.agent_ledger.specs.declared.late.Late.TheVariants.{Open, NotYet}
use Rattle.agent_words.specs.Outcomes.{Why}

-- ---- whoever keeps changes

-- it was asked for these, one after another, and nothing else was done to it
abbrev pub AllAsked : {K : Type 0} → (KeepCall → K → K → Type 0) → List KeepCall → K → K → Type 0
AllAsked asks [] old new = new ≡ old
AllAsked {K} asks (call ∷ rest) old new = (mid : K) × (asks call old mid × AllAsked asks rest mid new)

-- where there is somebody
abbrev pub KeeperIsCalled : {K : Type 0} → (KeepCall → K → K → Type 0) → List KeepCall → Option K → Option K → Type 0
KeeperIsCalled asks calls None new = new ≡ None
KeeperIsCalled asks calls (Some old) None = ⊥
KeeperIsCalled asks calls (Some old) (Some new) = AllAsked asks calls old new

-- looks at files of credentials
abbrev pub looks_of : KeepCall → ℕ
looks_of (Take now name w result) = 0
looks_of (LookUp now name w result) = 0
looks_of (Prove now result) = 0
looks_of (Settle result) = 0
looks_of (Reload now result) = 0
looks_of (Look now looked) = 1
looks_of MarkServed = 0
looks_of (RestFor now rest) = 0
looks_of (TryAgain now is_asked news) = 0

-- calls that make a change: no other but a look, or to try again, is to call a disk
abbrev pub makes_of : KeepCall → ℕ
makes_of (Take now name w result) = 1
makes_of (LookUp now name w result) = 0
makes_of (Prove now result) = 0
makes_of (Settle result) = 1
makes_of (Reload now result) = 1
makes_of (Look now looked) = 0
makes_of MarkServed = 0
makes_of (RestFor now rest) = 0
makes_of (TryAgain now is_asked news) = 0

-- tries again to keep changes
abbrev pub tries_of : KeepCall → ℕ
tries_of (Take now name w result) = 0
tries_of (LookUp now name w result) = 0
tries_of (Prove now result) = 0
tries_of (Settle result) = 0
tries_of (Reload now result) = 0
tries_of (Look now looked) = 0
tries_of MarkServed = 0
tries_of (RestFor now rest) = 0
tries_of (TryAgain now is_asked news) = 1

-- so many looks at most, so many changes, and so many tries
pub record IsAskedWithin {K : Type 0} (asks : KeepCall → K → K → Type 0) (looks makes tries : ℕ) (old new : Option K) : Type 0 where
  pub calls : List KeepCall
  pub asked : KeeperIsCalled asks calls old new
  pub few_looks : sum_by looks_of calls ≤ looks
  pub few_makes : sum_by makes_of calls ≤ makes
  pub few_tries : sum_by tries_of calls ≤ tries

-- in a turn of neighbours to which each call does this there is one look at most, no more changes are made than the turn took, and it is
-- tried once at most to keep them
abbrev pub AsksLittle : {K N : Type 0} → (NeighbourCall → N → N → Type 0) → (KeepCall → K → K → Type 0) → (N → Option K) → Type 0
AsksLittle {K} {N} does asks keeper = (t : ServingTurn) (old new : N) → TurnCalls does t old new → IsAskedWithin asks 1 (length (given_by t.made)) 1 (keeper old) (keeper new)

-- ---- the file of the ends

-- it is left alone, but that it may not keep all that was told
abbrev pub AreEndsLeft : {E : Type 0} → Option (EndsFile E) → Option (EndsFile E) → Type 0
AreEndsLeft None new = new ≡ None
AreEndsLeft (Some old) None = ⊥
AreEndsLeft (Some old) (Some new) = new ≡ record old { is_stale = new.is_stale }

-- it was due, which it is once a second at most, and was tried once
pub record EndsAreTriedOnce {E : Type 0} (known : Bool) (state : E → DiskState) (old new : Option (EndsFile E)) : Type 0 where
  pub agent : Agent
  pub now : ℕ
  pub result : Result (Unit {0}) DiskFault
  pub before : EndsFile E
  pub after : EndsFile E
  pub from : AreEndsLeft old (Some before)
  pub due : is_file_due before now ≡ true
  pub tried : FileIsTried known state agent now result before after
  pub to : AreEndsLeft (Some after) new

abbrev pub TriesEnds : {E N : Type 0} → (NeighbourCall → N → N → Type 0) → Bool → (E → DiskState) → (N → Option (EndsFile E)) → Type 0
TriesEnds {E} {N} does known state ends =
    (t : ServingTurn) (old new : N) → TurnCalls does t old new → AreEndsLeft (ends old) (ends new) ⊎ EndsAreTriedOnce known state (ends old) (ends new)

-- ---- files of credentials

abbrev pub stamps_of : FileCall → ℕ
stamps_of (Stamped path stamp) = 1
stamps_of (Opened path most read) = 0

abbrev pub opens_of : FileCall → ℕ
opens_of (Stamped path stamp) = 0
opens_of (Opened path most read) = 1

-- so many stamps were looked at at most, and so many files read: what is known of the calls now was known before, and these are more
abbrev pub FewAreMade : ℕ → ℕ → Option (List FileCall) → Option (List FileCall) → Type 0
FewAreMade stamps reads old new =
    IfSome new (λ calls. (before : List FileCall) × ((more : List FileCall) × ((old ≡ Some before) × ((calls ≡ before ++ more) × ((sum_by stamps_of more ≤ stamps) × (sum_by opens_of more ≤ reads))))))

-- the disk of the state is left alone
pub record LedgerIsSpared {D I L : Type 0} (calls : I → Option (List FileCall)) (stamps reads : ℕ) (old new : Ledger D I L) : Type 0 where
  pub files : FewAreMade stamps reads (calls old.inputs) (calls new.inputs)
  pub disk : new.state.disk ≡ old.state.disk

module _ {D I L : Type 0} (known : Bool) (seen : D → DiskState) (calls : I → Option (List FileCall)) (lanes_seen : L → Lanes) (port : L → ℕ) where
  -- a look looks at 64 stamps at most, and reads one file at most; the other calls but those that make a change call no disk
  abbrev pub LedgerLaw : Type 0
  LedgerLaw =
      (call : KeepCall) (old new : Ledger D I L) → makes_of call ≡ 0 → DoesLedger known seen calls lanes_seen port call old new →
      LedgerIsSpared calls (MOST_LOOKS * looks_of call) (looks_of call) old new

-- as long as a ledger is to come only its folder is tried, once a turn (AsksLittle)
abbrev pub SparesLate : {D I L F : Type 0} → (I → Option (List FileCall)) → Late D I L F → Late D I L F → Type 0
SparesLate calls (Open old) (Open new) = LedgerIsSpared calls MOST_LOOKS 1 old new
SparesLate calls (Open old) (NotYet new) = ⊥
SparesLate calls (NotYet old) new = Unit {0}

abbrev pub SparesIf : {D I L F : Type 0} → (I → Option (List FileCall)) → Option (Late D I L F) → Option (Late D I L F) → Type 0
SparesIf calls None new = new ≡ None
SparesIf calls (Some old) None = ⊥
SparesIf calls (Some old) (Some new) = SparesLate calls old new

-- so in a turn in which no change is taken
abbrev pub SparesLedger : {D I L F N : Type 0} → (NeighbourCall → N → N → Type 0) → (I → Option (List FileCall)) → (N → Option (Late D I L F)) → Type 0
SparesLedger {D} {I} {L} {F} {N} does calls ledger = (t : ServingTurn) (old new : N) → TurnCalls does t old new → t.made ≡ None → SparesIf calls (ledger old) (ledger new)

-- ---- these may be a house, an early day before one, or one with a lookout between them

module _ {S T D K E : Type 0} (given : S → Option (List ℕ)) (failures tries : S → ℕ) (tried : S → Option (List Tried)) (remaining written : T → Option (List ℕ)) (calls : T → Option (List TalkCall)) (log : D → Option (DoorLog T))
    (asks : KeepCall → K → K → Type 0) (rows : K → List Row) (keeps : K → Bool) (path : K → List ℕ) (reads : K → List ℕ → Result Row Why → Type 0) (gives : ℕ → Result (Option Inventory) AllocError → K → Type 0)
    (known : Bool) (state : E → DiskState) where
  abbrev pub ToHouse : NeighbourCall → House S T D K E → House S T D K E → Type 0
  ToHouse call old new = DoesToHouse given failures tries tried remaining written calls log asks rows keeps path reads gives known state call old new

  abbrev pub ToDay : NeighbourCall → EarlyDay (House S T D K E) → EarlyDay (House S T D K E) → Type 0
  ToDay call old new = PassesToOthers ToHouse call old new

  abbrev pub ToBehind : {L : Type 0} → (ℕ → ℕ → L → ℕ) → NeighbourCall → EarlyDay (Behind (House S T D K E) L) → EarlyDay (Behind (House S T D K E) L) → Type 0
  ToBehind {L} due_by call old new = PassesToOthers (λ (c : NeighbourCall) (a b : Behind (House S T D K E) L). PassesBehind due_by ToHouse c a b) call old new

  abbrev pub AsksLittleLaw : {L : Type 0} → (ℕ → ℕ → L → ℕ) → Type 0
  AsksLittleLaw {L} due_by =
      AsksLittle ToHouse asks (λ (h : House S T D K E). h.state)
      × (AsksLittle ToDay asks (λ (d : EarlyDay (House S T D K E)). d.others.state) × AsksLittle (ToBehind due_by) asks (λ (d : EarlyDay (Behind (House S T D K E) L)). d.others.others.state))

  abbrev pub EndsLaw : {L : Type 0} → (ℕ → ℕ → L → ℕ) → Type 0
  EndsLaw {L} due_by =
      TriesEnds ToHouse known state (λ (h : House S T D K E). h.ends)
      × (TriesEnds ToDay known state (λ (d : EarlyDay (House S T D K E)). d.others.ends) × TriesEnds (ToBehind due_by) known state (λ (d : EarlyDay (Behind (House S T D K E) L)). d.others.others.ends))

-- a house whose changes are kept by a ledger, or by one that is to come
module _ {S T O D I L E : Type 0} (F : Type 0) (given : S → Option (List ℕ)) (failures tries : S → ℕ) (tried : S → Option (List Tried)) (remaining written : T → Option (List ℕ)) (calls : T → Option (List TalkCall)) (log : O → Option (DoorLog T))
    (disk_known : Bool) (seen : D → DiskState) (file_calls : I → Option (List FileCall)) (lanes_seen : L → Lanes) (port : L → ℕ) (known : Bool) (state : E → DiskState) where
  abbrev pub HasLedger : Type 0
  HasLedger = House S T O (Late D I L F) E

  abbrev pub ToLedger : NeighbourCall → HasLedger → HasLedger → Type 0
  ToLedger =
      ToHouse given failures tries tried remaining written calls log (DoesLate disk_known seen file_calls lanes_seen port) late_rows is_open late_path ReadsLate GivesLate known state

  abbrev pub SparesLaw : {M : Type 0} → (ℕ → ℕ → M → ℕ) → Type 0
  SparesLaw {M} due_by =
      SparesLedger ToLedger file_calls (λ (h : HasLedger). h.state)
      × (SparesLedger (λ (call : NeighbourCall) (old new : EarlyDay HasLedger). PassesToOthers ToLedger call old new) file_calls (λ (d : EarlyDay HasLedger). d.others.state)
      × SparesLedger (λ (call : NeighbourCall) (old new : EarlyDay (Behind HasLedger M)). PassesToOthers (λ (c : NeighbourCall) (a b : Behind HasLedger M). PassesBehind due_by ToLedger c a b) call old new) file_calls
      (λ (d : EarlyDay (Behind HasLedger M)). d.others.others.state))
