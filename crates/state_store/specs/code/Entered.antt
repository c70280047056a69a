-- Words for a change that is about to be taken. No public clause cites them.
-- Source: this project's own.
use Rattle.std.specs.Prelude.{◌≡◌, ℕ, List, true, Ok, string_bytes, Some, None}
use Rattle.state_changes.specs.{declared.change.Change.Change, declared.change.ChangeKind.ChangeKind, declared.row.Row.Row, Changes.change_refusal, Changes.rows_changed, Compaction.is_need, Records.IsRecord, Replay.is_as_then}
use Rattle.base_journal.specs.Records.{IsRecordLine}
use Rattle.state_file.specs.declared.fault.SettleFault.{SettleFault}
use Rattle.state_store.specs.{declared.entering.Entered.Entered, declared.fault.TakeFault.TakeFault, code.Faults.unwritten}
use Rattle.state_store.specs.Books.{Book, IsTextOf, IsWhyUnhanded}
use Rattle.state_store.specs.declared.fault.TakeFault.TheVariants.{NoRecord, Refused, Unwritten, OutOfMemory}
use Rattle.state_store.specs.Entering.{IsReadAs, IsWhyUnhandedAfter, line_for_change, record_for}

-- the line is that of the change, which is read in it; and a replay makes that
pub record IsRecorded (b : Book) (name : List ℕ) (w : ChangeKind) (line : List ℕ) (c : Change) : Type 0 where
  pub line_is : line ≡ line_for_change b.file name w
  pub is_line : IsRecordLine line
  pub read : IsReadAs b.file name w c
  pub as_then : is_as_then b.file.rows c ≡ true

-- why there is no such line
abbrev pub IsUnrecorded : Book → List ℕ → ChangeKind → TakeFault → Type 0
IsUnrecorded b name w NoRecord = IsRecord (record_for b.file name w) → ⊥
IsUnrecorded b name w OutOfMemory = Unit {0}
IsUnrecorded b name w fault = ⊥

-- why a change is not made
abbrev pub IsUnmade : Book → Change → TakeFault → Type 0
IsUnmade b c (Refused fault) = change_refusal b.file.margin b.rows c.name c.what ≡ Some fault
IsUnmade b c (Unwritten fault) = IsWhyUnhandedAfter b c fault
IsUnmade b c OutOfMemory = Unit {0}
IsUnmade b c fault = ⊥

-- why there is no text of what is handed of these rows
abbrev pub IsUnhanded : Book → List Row → TakeFault → Type 0
IsUnhanded b rows fault = (why : SettleFault) × ((fault ≡ unwritten why) × IsWhyUnhanded b.file.margin b.secrets rows why)

-- the rows after the change, and the text of what is handed then
pub record RowsAndTextAreMade (b : Book) (c : Change) (rows : List Row) (text : List ℕ) : Type 0 where
  pub made : rows_changed b.file.margin b.rows c.name c.what ≡ Ok rows
  pub text_is : IsTextOf b.file.margin b.secrets rows text

pub record IsEntered (b : Book) (name : List ℕ) (w : ChangeKind) (e : Entered) : Type 0 where
  pub change : Change
  pub recorded : IsRecorded b name w e.line change
  pub made : RowsAndTextAreMade b change e.rows (string_bytes e.text)
  pub needed : e.is_need ≡ is_need change.what
