-- Moved: a file that has become what a store keeps, and the store then.
-- Source: this project's own.
use Rattle.std.specs.Prelude.{◌≡◌, ◌⊎◌, ℕ, List, [], ◌∷◌, ◌++◌, Bool, true, false, IsTrue, Option, Some, None}
use Rattle.std.specs.Str.{bytes_eq}
use Rattle.state_changes.specs.{declared.change.Record.TheVariants.Settling, Records.record_text, Words.fingerprint, Replay.replayed}
use Rattle.base_disk.specs.{Image.File, Image.Image, Torn.MovesFile}
use Rattle.base_disk.specs.State.{DiskState, IsAfter, LeavesOnly}
use Rattle.vault_inventory.specs.Served.{Served}
use Rattle.base_journal.specs.Journals as journals
use Rattle.base_journal.specs.Records.{IsBeforeOrAfter, StandsFor}
use Rattle.state_file.specs.{declared.fault.SettleFault.SettleFault, Order.in_order, Settled.TextIsSettled, Unwritten.IsWhyUnwritten}
use Rattle.state_store.specs.{declared.fault.Unsettled.Unsettled, declared.store.Store.Store}
use Rattle.state_store.specs.{Books.Book, Books.IsWhyUnhanded, Books.file_of}
use Rattle.state_store.specs.declared.fault.Unsettled.TheVariants.{Changed, Unwritten, Disk, OutOfMemory}
use Rattle.state_store.specs.Stores.{FileHolds, IsReplayed, book_of, is_sure, journal_of, lines_in, path_of_store}

-- the text of a file that says all that is kept, with the margin and the maximum TTL of the system of the one that was read, and what is
-- read of it
abbrev pub SaysAllKept : Book → List ℕ → Served → Type 0
SaysAllKept b text v = TextIsSettled (Some b.file.margin) b.file.system_max b.rows text v

-- why there is no such text; or there is one, and what is handed of its rows cannot be written as one file
abbrev pub IsWhyUnsaid : Book → SettleFault → Type 0
IsWhyUnsaid b fault = IsWhyUnwritten (Some b.file.margin) b.file.system_max b.rows fault ⊎ IsWhyUnhanded b.file.margin b.secrets (in_order b.rows) fault

-- the line that says that the file with this text holds every change before
abbrev pub mark_line : List ℕ → List ℕ
mark_line text = record_text (Settling (fingerprint text))

-- the book of that text: tokens before leases, and the secrets as they were
pub record IsMovedBook (old : Book) (text : List ℕ) (v : Served) (new : Book) : Type 0 where
  pub file : new.file ≡ file_of text v
  pub rows : new.rows ≡ in_order old.rows
  pub secrets : new.secrets ≡ old.secrets

-- the file gives the rows by itself, without a journal
abbrev pub SaysByItself : Store → Type 0
SaysByItself store = (replayed (book_of store).file []).rows ≡ (book_of store).rows

-- the file is there with that text, and the journal has its mark
pub record IsMoved (known : Bool) (old : Store) (target : List ℕ) (mode : ℕ) (text : List ℕ) (new : Store) (s : DiskState) : Type 0 where
  pub served : Served
  pub says : SaysAllKept (book_of old) text served
  pub book : IsMovedBook (book_of old) text served (book_of new)
  pub lines : lines_in new ≡ lines_in old ++ mark_line text ∷ []
  pub by_itself : SaysByItself new
  pub sure : is_sure new ≡ true
  pub there : IsTrue known → journals.FileIsThere target (record { mode = mode; bytes = text }) s
  pub whole : IsTrue known → journals.JournalIsWhole (journal_of new) s

-- the file that was read has that text already, by its fingerprint
abbrev pub SaysAlready : Book → Type 0
SaysAlready b = (text : List ℕ) × (v : Served) × SaysAllKept b text v × (fingerprint text ≡ b.file.mark)

-- the file has become what is kept, with this text; or it said all that before, and all stays as it was
abbrev pub IsMovedIf : Bool → Store → List ℕ → ℕ → Option (List ℕ) → Store → DiskState → Type 0
IsMovedIf known old target mode (Some text) new s = IsMoved known old target mode text new s
IsMovedIf known old target mode None new s = (new ≡ old) × SaysAlready (book_of old)

-- the lines as they were, or with the mark of a text more
abbrev pub HasMarkAtMost : Store → Store → Type 0
HasMarkAtMost old new = (lines_in new ≡ lines_in old) ⊎ ((text : List ℕ) × (lines_in new ≡ lines_in old ++ mark_line text ∷ []))

-- why the file does not become what is kept: its bytes are not those that were read; what is kept cannot be written as one file;
-- the disk failed; or memory was refused
abbrev pub IsWhyUnsettled : Book → List ℕ → Unsettled → Type 0
IsWhyUnsettled b present Changed = bytes_eq (fingerprint present) b.file.mark ≡ false
IsWhyUnsettled b present (Unwritten fault) = (fingerprint present ≡ b.file.mark) × IsWhyUnsaid b fault
IsWhyUnsettled b present (Disk fault) = fingerprint present ≡ b.file.mark
IsWhyUnsettled b present OutOfMemory = Unit {0}

-- the file at the target has the bytes that were read of it, or is as it was, and the store was sure of it
pub record IsStillThere (known : Bool) (old : Store) (target present : List ℕ) (s t : DiskState) : Type 0 where
  pub sure : is_sure old ≡ true
  pub bytes : IsTrue known → (t.seen target ≡ s.seen target) ⊎ (journals.bytes_of_file (t.seen target) ≡ present)

-- what a crash leaves while a file takes its place, after a mark in the journal at this path: the old one, and the journal's file as it
-- was or with these records, or with the mark besides; or the new one, with all of them; and all else as it was
pub record Marking (path target : List ℕ) (file : File) (lines : List (List ℕ)) (mark : List ℕ) (old : DiskState) (c : Image) : Type 0 where
  pub was : Image
  pub before : old.may_leave was
  pub elsewhere : (other : List ℕ) → bytes_eq path other ≡ false → bytes_eq target other ≡ false → c other ≡ was other
  pub both : ((c target ≡ was target) × ((c path ≡ was path) ⊎ IsBeforeOrAfter lines mark (journals.bytes_of_file (c path))))
      ⊎ ((c target ≡ Some file) × StandsFor (journals.bytes_of_file (c path)) (lines ++ mark ∷ []))

-- what a crash leaves meanwhile: all as it might have been left before; or the old file, with the mark of the new text or without
-- it; or the new one, with every change and that mark
abbrev pub LeftByMove : Store → List ℕ → ℕ → DiskState → Image → Type 0
LeftByMove store target mode s c = s.may_leave c
    ⊎ ((text : List ℕ) × (v : Served) × SaysAllKept (book_of store) text v
    × Marking (path_of_store store) target (record { mode = mode; bytes = text }) (lines_in store) (mark_line text) s c)

-- ---- a settling, step by step

-- the first step: the mark of this text is put in the journal, or is not; the file at the target, and all else, is as it was
pub record PutsMark {D : Type 0} (known : Bool) (state : D → DiskState) (old : Store) (target text : List ℕ) (s : D) (new : Store) (t : D) : Type 0 where
  pub book : book_of new ≡ book_of old
  pub sure : is_sure new ≡ is_sure old
  pub path : path_of_store new ≡ path_of_store old
  pub lines : (lines_in new ≡ lines_in old) ⊎ (lines_in new ≡ lines_in old ++ mark_line text ∷ [])
  pub held : journals.JournalHolds known (journal_of new) (state t)
  pub replayed : IsReplayed new
  pub file : FileHolds known new target (state t)
  pub others : journals.KeepsOthers (path_of_store old) (state s) (state t)
  pub any_moment : LeavesOnly (state s) (state t) (journals.CrashLeaves (path_of_store old) (IsBeforeOrAfter (lines_in old) (mark_line text)) (state s))

-- the file is in its place, and the book is that of it
pub record IsInPlace (target : List ℕ) (file : File) (v : Served) (old new : Store) (t : DiskState) : Type 0 where
  pub there : journals.FileIsThere target file t
  pub book : IsMovedBook (book_of old) file.bytes v (book_of new)
  pub by_itself : SaysByItself new
  pub sure : is_sure new ≡ true

-- or it may not be, and the book is as it was; the store is sure of the old one only where that can be read still
pub record IsNotInPlace (target present : List ℕ) (old new : Store) (t : DiskState) : Type 0 where
  pub book : book_of new ≡ book_of old
  pub sure : is_sure new ≡ true → (is_sure old ≡ true) × (journals.bytes_of_file (t.seen target) ≡ present)

-- the second step: once the journal is on the disk with the mark of the file, that file is put in the place of the one with the bytes
-- that are present, or is not; the journal is left alone
pub record PutsFile {D : Type 0} (state : D → DiskState) (old : Store) (target : List ℕ) (file : File) (v : Served) (present : List ℕ) (s : D) (new : Store) (t : D) : Type 0 where
  pub marked : (before : List (List ℕ)) × (lines_in old ≡ before ++ mark_line file.bytes ∷ [])
  pub whole : journals.JournalIsWhole (journal_of old) (state s)
  pub journal : journal_of new ≡ journal_of old
  pub seen : MovesFile target file (state s).seen (state t).seen
  pub any_moment : LeavesOnly (state s) (state t) (IsAfter (MovesFile target file) (state s))
  pub outcome : IsInPlace target file v old new (state t) ⊎ IsNotInPlace target present old new (state t)

-- both steps are taken, the second one from where the first one ended
abbrev pub TakesSteps : {D : Type 0} → Bool → (D → DiskState) → Store → List ℕ → ℕ → List ℕ → Served → List ℕ → D → Store → D → Type 0
TakesSteps {D} known state old target mode text v present s new t =
    (marked : Store) × (mid : D) × PutsMark known state old target text s marked mid × PutsFile state marked target (record { mode = mode; bytes = text }) v present mid new t

-- so the file gets this text; or it had it, and nothing is done
abbrev pub MovesInSteps : {D : Type 0} → Bool → (D → DiskState) → Store → List ℕ → ℕ → List ℕ → D → Option (List ℕ) → Store → D → Type 0
MovesInSteps known state old target mode present s (Some text) new t = (v : Served) × SaysAllKept (book_of old) text v × TakesSteps known state old target mode text v present s new t
MovesInSteps known state old target mode present s None new t = (new ≡ old) × (t ≡ s)

-- where that fails, nothing is begun, or one step is, or both are
abbrev pub FailsInSteps : {D : Type 0} → Bool → (D → DiskState) → Store → List ℕ → ℕ → List ℕ → D → Store → D → Type 0
FailsInSteps known state old target mode present s new t = ((new ≡ old) × (t ≡ s))
    ⊎ ((text : List ℕ) × (v : Served) × SaysAllKept (book_of old) text v × (PutsMark known state old target text s new t ⊎ TakesSteps known state old target mode text v present s new t))
