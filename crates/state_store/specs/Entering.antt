-- Entering: a change that is taken, the line that keeps it, and what it makes of a book.
-- Source: this project's own.
use Rattle.std.specs.Prelude.{◌≡◌, ℕ, Bool, true, false, List, Some, None, Result, Ok, Err}
use Rattle.state_changes.specs.{declared.change.Change.Change, declared.change.Record.Record, declared.change.Record.TheVariants.Made, declared.change.ChangeKind.ChangeKind, declared.replaying.File.File, declared.row.Row.Row}
use Rattle.state_changes.specs.{Changes.change_refusal, Changes.rows_changed, Said.said}
use Rattle.state_changes.specs.Records.{IsRecord, record_of, record_text}
use Rattle.base_disk.specs.State.{DiskState, TellsFailure}
use Rattle.base_journal.specs.Journals.{TellsLength}
use Rattle.state_store.specs.declared.fault.TakeFault.{TakeFault}
use Rattle.state_store.specs.declared.fault.TakeFault.TheVariants.{Unread, NoRecord, Refused, Unwritten, Disk, Unsure, OutOfMemory}
use Rattle.state_file.specs.declared.fault.SettleFault.{SettleFault}
use Rattle.state_store.specs.Books.{Book, IsWhyUnhanded}

-- a change of the entry of that name, beside what the file says of it
abbrev pub record_for : File → List ℕ → ChangeKind → Record
record_for f name w = Made (record { name = name; was = said f.rows name w; what = w })

-- the line that keeps it
unfoldable pub line_for_change : File → List ℕ → ChangeKind → List ℕ
line_for_change f name w = record_text (record_for f name w)

-- the change as a later start reads it in that line: for what a journal can write it is the same
abbrev pub IsReadAs : File → List ℕ → ChangeKind → Change → Type 0
IsReadAs f name w c = record_of (line_for_change f name w) ≡ Some (Made c)

-- a book after that change
pub record IsChanged (old : Book) (name : List ℕ) (w : ChangeKind) (c : Change) (new : Book) : Type 0 where
  pub read : IsReadAs old.file name w c
  pub made : rows_changed old.file.margin old.rows c.name c.what ≡ Ok new.rows
  pub file : new.file ≡ old.file
  pub secrets : new.secrets ≡ old.secrets

-- why what is handed after a change cannot be written as one file: so of the rows that it makes
abbrev pub IsWhyUnhandedAfter : Book → Change → SettleFault → Type 0
IsWhyUnhandedAfter b c fault = (rows : List Row) × ((rows_changed b.file.margin b.rows c.name c.what ≡ Ok rows) × IsWhyUnhanded b.file.margin b.secrets rows fault)

-- why a change is not taken beside a file that was read: no journal can write it; it is refused by name; what is handed then cannot be
-- written as one file, as over 1 MiB; the disk failed, and has it or not; or memory was refused
abbrev pub IsWhyNot : Book → List ℕ → ChangeKind → TakeFault → Type 0
IsWhyNot b name w Unread = ⊥
IsWhyNot b name w NoRecord = IsRecord (record_for b.file name w) → ⊥
IsWhyNot b name w (Refused fault) = (c : Change) × (IsReadAs b.file name w c × (change_refusal b.file.margin b.rows c.name c.what ≡ Some fault))
IsWhyNot b name w (Unwritten fault) = (c : Change) × (IsReadAs b.file name w c × IsWhyUnhandedAfter b c fault)
IsWhyNot b name w (Disk fault) = (c : Change) × (IsReadAs b.file name w c × (change_refusal b.file.margin b.rows c.name c.what ≡ None))
IsWhyNot b name w (Unsure fault) = (c : Change) × (IsReadAs b.file name w c × (change_refusal b.file.margin b.rows c.name c.what ≡ None))
IsWhyNot b name w OutOfMemory = Unit {0}

-- a fault of the disk is told exactly where the disk has failed, and says what the disk said
abbrev pub FaultTellsDisk : DiskState → DiskState → TakeFault → Type 0
FaultTellsDisk old new (Disk fault) = TellsFailure {X = Unit {0}} old new (Err fault)
FaultTellsDisk old new (Unsure fault) = TellsFailure {X = Unit {0}} old new (Err fault)
FaultTellsDisk old new fault = new.faults ≡ old.faults

abbrev pub TellsDisk : {X : Type 0} → DiskState → DiskState → Result X TakeFault → Type 0
TellsDisk old new (Ok x) = new.faults ≡ old.faults
TellsDisk old new (Err fault) = FaultTellsDisk old new fault

-- that a journal would be too long is told only of so many bytes as one may not have
abbrev pub FaultTellsLength : ℕ → TakeFault → Type 0
FaultTellsLength size (Disk fault) = TellsLength size fault
FaultTellsLength size (Unsure fault) = TellsLength size fault
FaultTellsLength size fault = Unit {0}

-- whether the disk may have a change that was not taken
abbrev pub may_hold : TakeFault → Bool
may_hold (Unsure fault) = true
may_hold fault = false
