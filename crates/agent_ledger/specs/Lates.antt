-- Lates: a ledger that comes later, where its state folder cannot be used at the start: the folder is tried again, every ten seconds and where
-- a client asks for a change, and once it can be used, the needs are recorded first that were given meanwhile.
-- Source: docs/commands/serve.md, "Changes".
use Rattle.std.specs.Prelude.{◌≡◌, ◌⊎◌, ℕ, ◌+◌, Bool, true, false, ◌||◌, List, [], ◌∷◌, Option, Some, None, Result, Ok, Err, min, nat_le}
use Rattle.std.specs.declared.alloc.AllocError.{AllocError}
use Rattle.agent_standing.specs.Waiting.{changed}
use Rattle.vault_asking.specs.Sending.{Lanes}
use Rattle.state_changes.specs.{declared.change.ChangeKind.ChangeKind, declared.row.Row.Row}
use Rattle.state_changes.specs.declared.change.ChangeKind.TheVariants as what
use Rattle.base_clock.specs.Rests.{rest_until}
use Rattle.base_disk.specs.State.{DiskState}
use Rattle.vault_inventory.specs.{Inventories.Inventory, declared.need.Need.Need}
use Rattle.state_keeping.specs.{States.book_in, States.store_in, Keepers.waiting_in}
use Rattle.state_secrets.specs.Stamps.{FileCall}
use Rattle.agent_words.specs.Outcomes.{IsNotKept, Why, nothing_kept}
use Rattle.agent_ledger.specs.{Openings.RecordsNeeds, Openings.noted, Takings.quiet, declared.keeping.KeepNews.KeepNews, declared.late.Late.Late, declared.late.Shut.Shut, declared.late.TheConstants.TRY_FOLDER, declared.ledger.Ledger.Ledger}
use Rattle.agent_ledger.specs.{declared.opening.OpenedLedger.OpenedLedger}
use Rattle.agent_ledger.specs.Keeping.{KeepCall, Look, LookUp, MarkServed, Prove, Reload, RestFor, Settle, Take, TryAgain}
use Rattle.agent_ledger.specs.Ledgers.{DoesLedger, GivesLedger, ReadsTable}
use Rattle.agent_ledger.specs.declared.late.Late.TheVariants.{Open, NotYet}
use Rattle.agent_ledger.specs.declared.keeping.LookedUp.TheVariants as lookups

-- ---- as long as there is no ledger

-- the entries that the file named at the start, where some of them are not served
abbrev pub shut_rows : Option (List Row) → List Row
shut_rows None = []
shut_rows (Some rows) = rows

-- a need is kept in mind, unless memory is wanting for that; no other change is
abbrev pub NotesNeed : {F L : Type 0} → List ℕ → Need → Result (Unit {0}) Why → Shut F L → Shut F L → Type 0
NotesNeed name need (Ok x) old new = (new.needs.items ≡ noted (record { name = name; need = need }) old.needs.items) × (new ≡ record old { needs = new.needs })
NotesNeed name need (Err None) old new = (new.needs.items ≡ old.needs.items) × (new ≡ record old { needs = new.needs })
NotesNeed name need (Err (Some why)) old new = ⊥

abbrev pub TakesShut : {F L : Type 0} → List ℕ → ChangeKind → Result (Unit {0}) Why → Shut F L → Shut F L → Type 0
TakesShut name (what.Need need) result old new = NotesNeed name need result old new
TakesShut name (what.Replace credential) result old new = IsNotKept result × (new ≡ old)
TakesShut name (what.Add row) result old new = IsNotKept result × (new ≡ old)
TakesShut name what.Drop result old new = IsNotKept result × (new ≡ old)

-- that nothing is kept is the one reason, unless memory is wanting for it
abbrev pub IsUntold : List (List ℕ) → Type 0
IsUntold whys = (whys ≡ []) ⊎ (whys ≡ nothing_kept ∷ [])

-- nothing is looked up, settled, read or served
abbrev pub DoesShut : {F L : Type 0} → KeepCall → Shut F L → Shut F L → Type 0
DoesShut (Take now name w result) old new = TakesShut name w result old new
DoesShut (LookUp now name w result) old new = (result ≡ Ok lookups.Nothing) × (new ≡ old)
DoesShut (Prove now result) old new = (result ≡ Ok None) × (new ≡ old)
DoesShut (Settle result) old new = IsNotKept result × (new ≡ old)
DoesShut (Reload now (Ok reread)) old new = ⊥
DoesShut (Reload now (Err whys)) old new = IsUntold whys.items × (new ≡ old)
DoesShut (Look now look) old new = (look ≡ record { looked = quiet false; unproved = None }) × (new ≡ old)
DoesShut MarkServed old new = new ≡ old
DoesShut (RestFor now rest) old new = (new ≡ old) × (rest ≡ rest_until (Some old.next) now)
DoesShut (TryAgain now is_asked news) old new = ⊥

-- ---- the folder is tried

-- where it is time for that, or a client asks for a change
abbrev pub is_due : {F L : Type 0} → ℕ → Bool → Shut F L → Bool
is_due now is_asked s = is_asked || nat_le s.next now

-- and then again ten seconds later
abbrev pub tried_at : {F L : Type 0} → ℕ → Shut F L → ℕ
tried_at now s = min (now + TRY_FOLDER) 18446744073709551615

-- it cannot be used, or not all needs can be recorded in it: all but how it was tried is as it was
abbrev pub StaysShut : {F L : Type 0} → ℕ → Shut F L → Shut F L → Type 0
StaysShut now old new = new ≡ record old { opening = new.opening; next = tried_at now old }

-- it is opened, and the needs are recorded
abbrev pub OpensOnce : {K F L : Type 0} → (KeepCall → K → K → Type 0) → (K → List Row) → ℕ → Option (OpenedLedger K) → Shut F L → Shut F L → Type 0
OpensOnce does rows now None old new = StaysShut now old new
OpensOnce {K} does rows now (Some opened) old new = (first : OpenedLedger K) × (RecordsNeeds does rows now old.needs.items true first opened × StaysShut now old new)

-- a ledger has the lanes that waited for it, and what it has waits to be served from now on
pub record LaidOpen {D I F L : Type 0} (now : ℕ) (shut : Shut F L) (old new : Ledger D I L) : Type 0 where
  pub waiting : waiting_in new.state.keeper ≡ changed (waiting_in old.state.keeper) now
  pub store : store_in new.state ≡ store_in old.state
  pub disk : new.state.disk ≡ old.state.disk
  pub places : new.state.places ≡ old.state.places
  pub rest : new ≡ record old { state = new.state; proving = shut.proving; askers = shut.askers }

module _ {D I L F : Type 0} (known : Bool) (seen : D → DiskState) (calls : I → Option (List FileCall)) (lanes_seen : L → Lanes) (port : L → ℕ) where
  -- the ledger is there, and this is to be said
  pub record OpensLedger (now : ℕ) (news : KeepNews) (old : Shut F L) (new : Ledger D I L) : Type 0 where
    pub opened : OpenedLedger (Ledger D I L)
    pub mid : Shut F L
    pub opens : OpensOnce (DoesLedger known seen calls lanes_seen port) (λ (l : Ledger D I L). (book_in l.state).rows) now (Some opened) old mid
    pub laid : LaidOpen now mid opened.keeper new
    pub news_is : news ≡ opened.news

  -- or it is not, and nothing is to be said
  abbrev pub OpensIf : ℕ → Option KeepNews → Shut F L → Late D I L F → Type 0
  OpensIf now None old (NotYet new) = StaysShut now old new
  OpensIf now None old (Open new) = ⊥
  OpensIf now (Some news) old (NotYet new) = ⊥
  OpensIf now (Some news) old (Open new) = OpensLedger now news old new

  -- before its time it is not tried
  abbrev pub TriesShut : ℕ → Bool → Option KeepNews → Shut F L → Late D I L F → Type 0
  TriesShut now is_asked news old new =
      ((is_due now is_asked old ≡ false) × ((news ≡ None) × (new ≡ NotYet old))) ⊎ ((is_due now is_asked old ≡ true) × OpensIf now news old new)

  -- a ledger that is there stays
  abbrev pub TriesOnce : ℕ → Bool → Option KeepNews → Late D I L F → Late D I L F → Type 0
  TriesOnce now is_asked news (Open old) new = (news ≡ None) × (new ≡ Open old)
  TriesOnce now is_asked news (NotYet old) new = TriesShut now is_asked news old new

  -- ---- each call

  abbrev pub DoesBoth : KeepCall → Late D I L F → Late D I L F → Type 0
  DoesBoth call (Open old) (Open new) = DoesLedger known seen calls lanes_seen port call old new
  DoesBoth call (Open old) (NotYet new) = ⊥
  DoesBoth call (NotYet old) (Open new) = ⊥
  DoesBoth call (NotYet old) (NotYet new) = DoesShut call old new

  abbrev pub DoesLate : KeepCall → Late D I L F → Late D I L F → Type 0
  DoesLate (TryAgain now is_asked news) old new = TriesOnce now is_asked news old new
  DoesLate call old new = DoesBoth call old new

-- ---- what there is

abbrev pub is_open : {D I L F : Type 0} → Late D I L F → Bool
is_open (Open l) = true
is_open (NotYet s) = false

abbrev pub late_rows : {D I L F : Type 0} → Late D I L F → List Row
late_rows (Open l) = (book_in l.state).rows
late_rows (NotYet s) = shut_rows s.read

abbrev pub late_path : {D I L F : Type 0} → Late D I L F → List ℕ
late_path (Open l) = l.state.places.file
late_path (NotYet s) = []

abbrev pub ReadsLate : {D I L F : Type 0} → Late D I L F → List ℕ → Result Row Why → Type 0
ReadsLate (Open l) table result = ReadsTable (book_in l.state).file.system_max table result
ReadsLate (NotYet s) table result = IsNotKept result

-- nothing is due as long as there is no ledger
abbrev pub GivesLate : {D I L F : Type 0} → ℕ → Result (Option Inventory) AllocError → Late D I L F → Type 0
GivesLate now result (Open l) = GivesLedger now result l
GivesLate now result (NotYet s) = result ≡ Ok None
