-- Books: what FILE says, what the changes since have made of it, and the text of what is handed to a watch.
-- Source: this project's own.
use Rattle.std.specs.Prelude.{◌≡◌, ℕ, List, Option, Some, None, Ok, Err}
use Rattle.vault_inventory.specs.{Inventory.read_served, Served.Served}
use Rattle.state_changes.specs.{declared.change.Record.Record, declared.replaying.File.File, declared.replaying.JournalNote.JournalNote, declared.row.Row.Row, Listed.rows_of_served, Replay.replayed, Words.fingerprint}
use Rattle.state_changes.specs.{declared.secret.Secret.Secret}
use Rattle.state_file.specs.{declared.fault.SettleFault.SettleFault, Settled.TextIsSettled, Unwritten.IsWhyUnwritten}
use Rattle.state_store.specs.{declared.fault.FileFault.FileFault, Handed.handed}
use Rattle.state_store.specs.declared.fault.FileFault.TheVariants.{Unread, Faulty, Unwritten, OutOfMemory}

pub record Book : Type 0 where
  pub file : File
  pub rows : List Row
  pub secrets : List Secret
  pub text : List ℕ

-- the text of a file that says what is handed of these rows, with that margin
abbrev pub IsTextOf : ℕ → List Secret → List Row → List ℕ → Type 0
IsTextOf margin secrets rows text = (v : Served) × TextIsSettled (Some margin) None (handed secrets rows) text v

-- why there is no such text
abbrev pub IsWhyUnhanded : ℕ → List Secret → List Row → SettleFault → Type 0
IsWhyUnhanded margin secrets rows fault = IsWhyUnwritten (Some margin) None (handed secrets rows) fault

-- what a book always keeps
abbrev pub IsBook : Book → Type 0
IsBook b = IsTextOf b.file.margin b.secrets b.rows b.text

-- what a file with these bytes says
abbrev pub file_of : List ℕ → Served → File
file_of bytes v = record { rows = rows_of_served v; margin = v.inventory.forest.margin; system_max = v.system_max; mark = fingerprint bytes }

abbrev pub IsFileOf : List ℕ → File → Type 0
IsFileOf bytes f = (v : Served) × ((read_served bytes ≡ Ok v) × (f ≡ file_of bytes v))

-- the book of a file with these bytes and the records of a journal, with a note on each change that was not made
pub record IsBookOf (bytes : List ℕ) (records : List Record) (secrets : List Secret) (b : Book) (notes : List JournalNote) : Type 0 where
  pub file : IsFileOf bytes b.file
  pub rows : replayed b.file records ≡ record { rows = b.rows; notes = notes }
  pub secrets_are : b.secrets ≡ secrets

-- the file is read, and is no inventory for this reason; or it is one, and what is to be handed of its rows after these records cannot
-- be written as one file, for this reason
abbrev pub IsFault : List ℕ → List Record → List Secret → FileFault → Type 0
IsFault bytes records secrets Unread = ⊥
IsFault bytes records secrets (Faulty fault) = read_served bytes ≡ Err fault
IsFault bytes records secrets (Unwritten fault) = (f : File) × IsFileOf bytes f × IsWhyUnhanded f.margin secrets (replayed f records).rows fault
IsFault bytes records secrets OutOfMemory = Unit {0}

-- the same of a file whose bytes may not be had
abbrev pub IsFileFaultOf : Option (List ℕ) → List Record → List Secret → FileFault → Type 0
IsFileFaultOf None records secrets Unread = Unit {0}
IsFileFaultOf None records secrets OutOfMemory = Unit {0}
IsFileFaultOf None records secrets fault = ⊥
IsFileFaultOf (Some bytes) records secrets fault = IsFault bytes records secrets fault

abbrev pub IsBookIf : Option (List ℕ) → List Record → List Secret → Book → List JournalNote → Type 0
IsBookIf None records secrets b notes = ⊥
IsBookIf (Some bytes) records secrets b notes = IsBookOf bytes records secrets b notes

-- the same book, with what these files of secrets have given
pub record HasSecrets (old : Book) (secrets : List Secret) (new : Book) : Type 0 where
  pub file : new.file ≡ old.file
  pub rows : new.rows ≡ old.rows
  pub secrets_are : new.secrets ≡ secrets
  pub text_is : IsBook new
