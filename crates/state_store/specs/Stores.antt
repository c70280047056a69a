-- Stores: a book beside the journal of its changes.
-- Source: this project's own.
use Rattle.std.specs.Prelude.{◌≡◌, ◌⊎◌, ℕ, List, ◌++◌, ◌∷◌, [], Bool, true, false, IsTrue, Option, Some, None, length}
use Rattle.std.specs.Str.{bytes_eq}
use Rattle.state_changes.specs.{declared.change.Change.Change, declared.change.Record.Record, declared.change.ChangeKind.ChangeKind, declared.replaying.JournalNote.JournalNote, Compaction.is_need, Replay.replayed}
use Rattle.base_disk.specs.{Image.Image, Image.SameElsewhere, State.DiskState}
use Rattle.base_journal.specs.{declared.journal.Journal.Journal, Journals.lines_of_journal, Journals.path_of_journal, Records.at_rest}
use Rattle.state_store.specs.{declared.fault.FileFault.FileFault, declared.fault.TakeFault.TakeFault, declared.fault.TakeFault.TheVariants.Unread, declared.store.OpenedStore.OpenedStore, declared.store.Store.Store, Records.records_in}
use Rattle.state_store.specs.Books.{Book, IsBookIf, IsFileFaultOf}
use Rattle.state_store.specs.Entering.{IsChanged, IsWhyNot, line_for_change}

abbrev pub journal_of : Store → Journal
journal_of store = store.journal

abbrev pub book_of : Store → Book
book_of store = store.book

abbrev pub lines_in : Store → List (List ℕ)
lines_in store = lines_of_journal store.journal

abbrev pub path_of_store : Store → List ℕ
path_of_store store = path_of_journal store.journal

-- the file is the one that a start reads, as far as the store has changed it, or has synced its copy
abbrev pub is_sure : Store → Bool
is_sure store = store.is_sure

-- the file is on the disk: it was synced since it was read, or the store has put it there
abbrev pub is_kept : Store → Bool
is_kept store = store.is_kept

-- then a crash leaves the file at that path as a read gives it, where no call on it has failed
abbrev pub FileHolds : Bool → Store → List ℕ → DiskState → Type 0
FileHolds known store target s = IsTrue known → is_kept store ≡ true → s.is_sound target ≡ true → (c : Image) → s.may_leave c → c target ≡ s.seen target

-- it is, or no file stands there, and a start reads the copy
abbrev pub IsKeptOrNone : Bool → Store → List ℕ → DiskState → Type 0
IsKeptOrNone known store target s = (is_kept store ≡ true) ⊎ (IsTrue known → s.seen target ≡ None)

-- the files at all paths but the first are as they were; but of the one at the second nobody may know what a sync keeps
pub record KeepsAllBut (path target : List ℕ) (old new : DiskState) : Type 0 where
  pub seen : SameElsewhere path old.seen new.seen
  pub sound : (other : List ℕ) → bytes_eq path other ≡ false → bytes_eq target other ≡ false → new.is_sound other ≡ old.is_sound other

-- how many bytes the journal's file has with the line of that change
abbrev pub size_with : Store → List ℕ → ChangeKind → ℕ
size_with store name w = length (at_rest (lines_in store ++ line_for_change (book_of store).file name w ∷ []))

-- why a change is not taken: the file may be another one; or it is not taken beside this one
abbrev pub IsWhyUntaken : Store → List ℕ → ChangeKind → TakeFault → Type 0
IsWhyUntaken store name w Unread = is_sure store ≡ false
IsWhyUntaken store name w fault = (is_sure store ≡ true) × IsWhyNot store.book name w fault

-- the rows are those that the file and the journal give together: all changes that were acknowledged, in order
abbrev pub IsReplayed : Store → Type 0
IsReplayed store = (replayed store.book.file (records_in (lines_in store))).rows ≡ store.book.rows

-- a store after a change that was taken, which its journal keeps; and whether it is a need
pub record ChangeIsTaken (old : Store) (name : List ℕ) (w : ChangeKind) (need : Bool) (new : Store) : Type 0 where
  pub change : Change
  pub changed : IsChanged old.book name w change new.book
  pub lines : lines_in new ≡ lines_in old ++ line_for_change old.book.file name w ∷ []
  pub path : path_of_store new ≡ path_of_store old
  pub needed : need ≡ is_need change.what

-- the book is that of the file where there is no fault; else the fault is that of the file, and the book is that of its copy
abbrev pub BookIsFrom : Option (List ℕ) → Option (List ℕ) → Option FileFault → List Record → Book → List JournalNote → Type 0
BookIsFrom file copy None records b notes = IsBookIf file records [] b notes
BookIsFrom file copy (Some fault) records b notes = IsFileFaultOf file records [] fault × IsBookIf copy records [] b notes

-- a store at a start, over this journal
pub record StoreIsOpened (file copy : Option (List ℕ)) (journal : Journal) (o : OpenedStore) : Type 0 where
  pub journal_is : journal_of o.store ≡ journal
  pub book : BookIsFrom file copy o.fault (records_in (lines_of_journal journal)) (book_of o.store) o.notes.items
