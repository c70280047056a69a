-- Ledgers: the state of an agent on a disk, and what the calls of its house do to it.
-- Source: this project's own; what is on the disk is state_keeping's.
use Rattle.std.specs.Prelude.{◌≡◌, ◌≢◌, ◌⊎◌, ℕ, Bool, true, false, ◌||◌, IsTrue, List, Option, Some, None, IfSome, Result, Ok, Err, codes, if◌then◌else◌, is_some, length, nat_le}
use Rattle.std.specs.declared.alloc.AllocError.{AllocError}
use Rattle.agent_standing.specs.Waiting.{change_due_at, changed, is_change_due}
use Rattle.vault_asking.specs.Sending.{Lanes}
use Rattle.state_changes.specs.{declared.change.ChangeKind.ChangeKind, declared.replaying.JournalNote.JournalNote, declared.row.Row.Row, declared.secret.Secret.Secret}
use Rattle.base_clock.specs.{Rests.rest_until, Rests.shorter, declared.reading.Reading.Reading, declared.rest.TheConstants.TRY_AGAIN}
use Rattle.base_disk.specs.{State.DiskState, State.LeavesOnly, declared.fault.DiskFault.DiskFault}
use Rattle.base_files.specs.Files.{Files}
use Rattle.vault_inventory.specs.Inventories.{Inventory}
use Rattle.base_journal.specs.{Journals.CrashLeaves, Journals.JournalIsWhole, Records.StandsFor}
use Rattle.vault_proving.specs.declared.candidate.Candidate.{Candidate}
use Rattle.state_keeping.specs.{Tables.row_of_table, declared.fault.TableFault.TableFault, Keepers.InventoryIsGiven, Keepers.waiting_in}
use Rattle.state_keeping.specs.Settles.{IsCopied, IsSettledState, IsWhyUnsettledState}
use Rattle.state_keeping.specs.States.{Kept, book_in, store_in}
use Rattle.state_store.specs.{Books.HasSecrets, Books.IsBookIf, Compacted.compacted_lines, Compacted.is_worth, Handed.handed, Records.records_in, Entering.FaultTellsDisk, Entering.FaultTellsLength, declared.fault.TakeFault.TakeFault}
use Rattle.state_store.specs.Stores.{ChangeIsTaken, IsWhyUntaken, journal_of, lines_in, path_of_store, size_with}
use Rattle.state_secrets.specs.{Looking.begun_anew, Stamps.FileCall}
use Rattle.agent_ledger.specs.{Askers.is_any_asking, Candidates.IsCandidateFor, Shared.may_be_apart, Takings.LooksOrHears, Untouched.IsAsItWas, declared.keeping.LookedUp.LookedUp, declared.ledger.Ledger.Ledger}
use Rattle.agent_ledger.specs.Inquiries.{AsksAbout, ProvesOn, asked_in}
use Rattle.agent_ledger.specs.Keeping.{KeepCall, Look, LookUp, MarkServed, Prove, Reload, RestFor, Settle, Take, TryAgain}
use Rattle.agent_ledger.specs.Reasons.{bare_words, left_over_words, settle_words, table_words, take_words}
use Rattle.agent_ledger.specs.Rereading.{AreBytesOf, IsWhyNotReread, SaysCopy, SaysNotes}
use Rattle.agent_words.specs.{Gathering.AreGathered, Outcomes.Why, Outcomes.Whys, Reading.IsWellWritten, Reading.IsWide, Starts.is_bare_row, declared.demands.Demands.Demands, declared.reread.Reread.Reread}

-- ---- a change

-- the words are those of such a fault; or memory was wanting for them
abbrev pub SaysWhy : {F : Type 0} → (F → Type 0) → (F → List ℕ) → Why → Type 0
SaysWhy {F} Is words None = Unit {0}
SaysWhy {F} Is words (Some why) = (fault : F) × (Is fault × (why ≡ words fault))

-- the lines are as they were, or those are taken out that are void, where that is worth while
abbrev pub AreCompacted : List (List ℕ) → List (List ℕ) → Type 0
AreCompacted old new = (new ≡ old) ⊎ ((is_worth old ≡ true) × (new ≡ compacted_lines old))

-- the change is taken, and then its record is on the disk; afterwards records may go that are void, which changes nothing of what is kept, and
-- a crash meanwhile leaves all lines or those that stay
pub record IsTakenOn {D : Type 0} (known : Bool) (seen : D → DiskState) (now : ℕ) (name : List ℕ) (w : ChangeKind) (old new : Kept D) : Type 0 where
  pub mid : Kept D
  pub need : Bool
  pub taken : ChangeIsTaken (store_in old) name w need (store_in mid)
  pub waiting : waiting_in mid.keeper ≡ (if need then waiting_in old.keeper else changed (waiting_in old.keeper) now)
  pub acknowledged : IsTrue known → JournalIsWhole (journal_of (store_in mid)) (seen mid.disk)
  pub lines : AreCompacted (lines_in (store_in mid)) (lines_in (store_in new))
  pub left : IsTrue known → LeavesOnly (seen mid.disk) (seen new.disk) (CrashLeaves (path_of_store (store_in mid)) (λ file. StandsFor file (compacted_lines (lines_in (store_in mid)))) (seen mid.disk))
  pub path : path_of_store (store_in new) ≡ path_of_store (store_in mid)
  pub book : book_in new ≡ book_in mid
  pub still : waiting_in new.keeper ≡ waiting_in mid.keeper

-- why it is not taken: a fault of the disk is told exactly where the disk has failed, and says what the disk said; and that the journal would
-- be too long only where it would be
pub record IsWhyUntakenOn {D : Type 0} (known : Bool) (seen : D → DiskState) (name : List ℕ) (w : ChangeKind) (old new : Kept D) (fault : TakeFault) : Type 0 where
  pub why : IsWhyUntaken (store_in old) name w fault
  pub cause : FaultTellsDisk (seen old.disk) (seen new.disk) fault
  pub long : IsTrue known → FaultTellsLength (size_with (store_in old) name w) fault

abbrev pub TakesOn : {D : Type 0} → Bool → (D → DiskState) → ℕ → List ℕ → ChangeKind → Result (Unit {0}) Why → Kept D → Kept D → Type 0
TakesOn known seen now name w (Ok x) old new = IsTakenOn known seen now name w old new
TakesOn known seen now name w (Err why) old new = IsAsItWas old new × SaysWhy (IsWhyUntakenOn known seen name w old new) (take_words (book_in old).file.margin name w) why

-- ---- settle, reload, and the others

-- the paths stay
abbrev pub SettlesOn : {D : Type 0} → Bool → (D → DiskState) → Result (Unit {0}) Why → Kept D → Kept D → Type 0
SettlesOn known seen (Ok x) old new = IsSettledState known old None new (seen old.disk) (seen new.disk) × (new.places ≡ old.places)
SettlesOn known seen (Err why) old new = ((book_in new ≡ book_in old) × SaysWhy (IsWhyUnsettledState known old (seen old.disk)) settle_words why)
    ⊎ ((fault : DiskFault) × (IsSettledState known old (Some fault) new (seen old.disk) (seen new.disk) × IfSome why (λ text. text ≡ left_over_words fault)))

-- what files have given is taken, and waits to be served; or what would be handed on with it may not go together, and all is as it was
abbrev pub TakenIf : {D : Type 0} → Bool → ℕ → List Secret → Kept D → Kept D → Type 0
TakenIf true now secrets old new = HasSecrets (book_in old) secrets (book_in new) × (waiting_in new.keeper ≡ changed (waiting_in old.keeper) now)
TakenIf false now secrets old new = (may_be_apart (handed secrets (book_in old).rows) ≡ true) × IsAsItWas old new

-- where they gave nothing all is as it was
abbrev pub FilledWith : {D : Type 0} → Bool → ℕ → List Secret → Kept D → Kept D → Type 0
FilledWith is_taken now secrets old new = ((length secrets ≡ 0) × ((is_taken ≡ true) × IsAsItWas old new)) ⊎ ((length secrets ≢ 0) × TakenIf is_taken now secrets old new)

abbrev pub apart_line : List ℕ
apart_line = codes "what the files of credentials hold does not go together: the old ones stay"

-- that is said
abbrev pub said_if : Bool → Option (List ℕ)
said_if true = None
said_if false = Some apart_line

-- no file of the state is touched: its disk, its paths and its journal are the same
pub record StaysOnDisk {D : Type 0} (old new : Kept D) : Type 0 where
  pub disk : new.disk ≡ old.disk
  pub places : new.places ≡ old.places
  pub journal : journal_of (store_in new) ≡ journal_of (store_in old)

-- it is what the files of credentials hold that rows name. Of files that hold none nothing is said: the first look at them says it
pub record IsFilledOn {D : Type 0} (files : Files) (folder : List ℕ) (now : ℕ) (said : Option (List ℕ)) (old new : Kept D) : Type 0 where
  pub secrets : List Secret
  pub unheld : List (List ℕ)
  pub is_taken : Bool
  pub gathered : AreGathered files folder (book_in old).rows secrets unheld
  pub taken : FilledWith is_taken now secrets old new
  pub said_is : said ≡ said_if is_taken

-- a file that may be served is, with every change; and what is said of it. That file, the journal, and what was taken of files of credentials,
-- stay; and none of these is read
pub record IsReloadedOn {D : Type 0} (known : Bool) (seen : D → DiskState) (demands : Demands) (now : ℕ) (reread : Reread) (old new : Kept D) : Type 0 where
  pub bytes : List ℕ
  pub stand : AreBytesOf known seen old bytes
  pub left : AreBytesOf known seen new bytes
  pub written : IsWellWritten demands bytes
  pub notes : List JournalNote
  pub book : IsBookIf (Some bytes) (records_in (lines_in (store_in old))) (book_in old).secrets (book_in new) notes
  pub lines : lines_in (store_in new) ≡ lines_in (store_in old)
  pub waiting : waiting_in new.keeper ≡ changed (waiting_in old.keeper) now
  pub noted : SaysNotes (book_in new).file.margin (records_in (lines_in (store_in new))) notes reread.notes.items
  pub copy : Option DiskFault
  pub copied : IsCopied known old.places bytes copy (seen new.disk)
  pub unkept : SaysCopy copy reread.unkept

-- one that may not leaves all as it was, and the lines say why, unless memory was wanting for them
abbrev pub ReloadsOn : {D : Type 0} → Bool → (D → DiskState) → Demands → ℕ → Result Reread Whys → Kept D → Kept D → Type 0
ReloadsOn known seen demands now (Ok reread) old new = IsReloadedOn known seen demands now reread old new
ReloadsOn known seen demands now (Err whys) old new = IsAsItWas old new × IsWhyNotReread known seen demands old whys.items

-- for a second at most while something goes on turn by turn: a credential is looked up, or files are looked at
abbrev pub rest_while : Bool → Option ℕ
rest_while goes_on = if goes_on then Some TRY_AGAIN else None

-- and no longer than until a change is due
abbrev pub ledger_rest : {D I L : Type 0} → ℕ → Ledger D I L → Option ℕ
ledger_rest now l =
    shorter (rest_while (is_some (asked_in l.proving) || (is_any_asking l.askers.items || nat_le l.looking.from now))) (rest_until (change_due_at (waiting_in l.state.keeper)) now)

module _ {D I L : Type 0} (known : Bool) (seen : D → DiskState) (calls : I → Option (List FileCall)) (lanes_seen : L → Lanes) (port : L → ℕ) where
  -- what a change brings is looked up, and nothing else changes
  abbrev pub LooksUpOn : Reading → List ℕ → ChangeKind → Result LookedUp AllocError → Ledger D I L → Ledger D I L → Type 0
  LooksUpOn now name w (Ok result) old new =
      (c : Option Candidate) × (IsCandidateFor (book_in old.state).file.margin (book_in old.state).rows (book_in old.state).text name w c × AsksAbout lanes_seen port now c (Ok result) old.proving new.proving)
  LooksUpOn now name w (Err e) old new = asked_in new.proving ≡ asked_in old.proving

  -- nothing else changes
  abbrev pub DoesLedger : KeepCall → Ledger D I L → Ledger D I L → Type 0
  DoesLedger (LookUp now name w result) old new = LooksUpOn now name w result old new × (new ≡ record old { proving = new.proving })
  DoesLedger (Prove now result) old new = ProvesOn lanes_seen now result old.proving new.proving × (new ≡ record old { proving = new.proving })
  DoesLedger (Take now name w result) old new = TakesOn known seen now name w result old.state new.state × (new ≡ record old { state = new.state })
  DoesLedger (Settle result) old new = SettlesOn known seen result old.state new.state × (new ≡ record old { state = new.state })
  DoesLedger (Reload now result) old new = ReloadsOn known seen old.demands now result old.state new.state × (new ≡ record old { state = new.state; looking = begun_anew old.looking })
  DoesLedger (Look now look) old new = LooksOrHears calls lanes_seen port now look old new
  DoesLedger MarkServed old new =
      (waiting_in new.state.keeper ≡ None) × ((store_in new.state ≡ store_in old.state) × ((new.state.disk ≡ old.state.disk) × (new ≡ record old { state = new.state })))
  DoesLedger (RestFor now rest) old new = (new ≡ old) × (rest ≡ ledger_rest now old)
  DoesLedger (TryAgain now is_asked news) old new = (news ≡ None) × (new ≡ old)

-- the row of a table, in an inventory with that maximum TTL of the system, unless its entry has no credential; or why there is none
abbrev pub ReadsTable : Option ℕ → List ℕ → Result Row Why → Type 0
ReadsTable most table (Ok row) = row_of_table most table ≡ Ok row
ReadsTable most table (Err None) = Unit {0}
ReadsTable most table (Err (Some why)) =
    ((fault : TableFault) × ((row_of_table most table ≡ Err fault) × (why ≡ table_words fault)))
    ⊎ ((row : Row) × ((row_of_table most table ≡ Ok row) × ((is_bare_row row ≡ true) × (why ≡ bare_words row))))

-- what is served from a moment on, where that is due; memory may be wanting only there
abbrev pub GivesLedger : {D I L : Type 0} → ℕ → Result (Option Inventory) AllocError → Ledger D I L → Type 0
GivesLedger now (Ok None) l = is_change_due (waiting_in l.state.keeper) now ≡ false
GivesLedger now (Ok (Some inventory)) l =
    (narrow : Inventory) × (InventoryIsGiven (waiting_in l.state.keeper) now (book_in l.state).text (Some narrow) × IsWide l.demands (book_in l.state).text narrow inventory)
GivesLedger now (Err e) l = is_change_due (waiting_in l.state.keeper) now ≡ true
