-- Settles: FILE and the journal become one file, and then the copy is that file too.
-- Source: this project's own.
use Rattle.std.specs.Prelude.{◌≡◌, ◌⊎◌, ℕ, List, [], ◌∷◌, ◌++◌, Option, Some, None, Bool, true, false, IsTrue, bit_and}
use Rattle.std.specs.Str.{bytes_eq}
use Rattle.state_changes.specs.Words.{fingerprint}
use Rattle.base_disk.specs.{Image.File, Image.Image, State.DiskState, State.LeavesAlone, declared.fault.DiskFault.DiskFault}
use Rattle.vault_inventory.specs.Served.{Served}
use Rattle.base_journal.specs.Records.{StandsFor}
use Rattle.base_journal.specs.Journals.{FileIsThere, JournalIsWhole, bytes_of_file}
use Rattle.state_store.specs.{declared.fault.Unsettled.Unsettled, declared.store.Store.Store, Compacted.damaged}
use Rattle.state_store.specs.Moved.{IsMovedBook, IsWhyUnsaid, LeftByMove, SaysAllKept, SaysAlready, SaysByItself, mark_line}
use Rattle.state_store.specs.Stores.{book_of, is_sure, journal_of, lines_in}
use Rattle.state_store.specs.declared.fault.Unsettled.TheVariants as unsettles
use Rattle.state_file.specs.declared.fault.ReadFault.{ReadFault}
use Rattle.state_file.specs.declared.fault.ReadFault.TheVariants as reads
use Rattle.state_keeping.specs.{declared.fault.SettleWhy.SettleWhy, declared.reading.FileRead.FileRead, Places.Places, Reading.IsFileAt, Reading.IsWhyUnread}
use Rattle.state_keeping.specs.declared.fault.SettleWhy.TheVariants.{Unread, Changed, Unwritten, Disk, OutOfMemory}
use Rattle.state_keeping.specs.States.{Kept, book_in, store_in}

-- a copy of these bytes, which nobody but its user may read
abbrev pub copy_with : List ℕ → File
copy_with bytes = record { mode = 384; bytes = bytes }

-- the file at that path has these bytes, unless this says why it could not be kept
abbrev pub IsCopiedTo : Bool → List ℕ → List ℕ → Option DiskFault → DiskState → Type 0
IsCopiedTo known path bytes None s = IsTrue known → FileIsThere path (copy_with bytes) s
IsCopiedTo known path bytes (Some fault) s = Unit {0}

abbrev pub IsCopied : Bool → Places → List ℕ → Option DiskFault → DiskState → Type 0
IsCopied known places bytes copy s = IsCopiedTo known places.copy bytes copy s

-- the mode that FILE has from then on, where it had this one: none for others, and no bit beside the nine
abbrev pub mode_of : ℕ → ℕ
mode_of mode = bit_and mode 504

abbrev pub unsettled : Unsettled → SettleWhy
unsettled unsettles.Changed = Changed
unsettled (unsettles.Unwritten fault) = Unwritten fault
unsettled (unsettles.Disk fault) = Disk fault
unsettled unsettles.OutOfMemory = OutOfMemory

abbrev pub unread_why : ReadFault → SettleWhy
unread_why reads.OutOfMemory = OutOfMemory
unread_why fault = Unread fault

-- the copy is FILE, and of the journal's lines those are left that write no record; or this says why it has its records still, and the mark
-- of that text
abbrev pub IsHandedOver : Bool → Places → List (List ℕ) → List ℕ → Option DiskFault → Store → DiskState → Type 0
IsHandedOver known places lines text None new t = (lines_in new ≡ damaged lines) × (IsTrue known → FileIsThere places.copy (copy_with text) t × JournalIsWhole (journal_of new) t)
IsHandedOver known places lines text (Some fault) new t = lines_in new ≡ lines ++ mark_line text ∷ []

-- FILE has become what is kept, with this text
pub record IsSettled (known : Bool) (old : Store) (places : Places) (mode : ℕ) (text : List ℕ) (left : Option DiskFault) (new : Store) (t : DiskState) : Type 0 where
  pub served : Served
  pub says : SaysAllKept (book_of old) text served
  pub book : IsMovedBook (book_of old) text served (book_of new)
  pub by_itself : SaysByItself new
  pub sure : is_sure new ≡ true
  pub there : IsTrue known → FileIsThere places.file (record { mode = mode; bytes = text }) t
  pub handed : IsHandedOver known places (lines_in old) text left new t

-- or it has said all that before
abbrev pub IsSettledIf : Bool → Store → Places → ℕ → Option (List ℕ) → Option DiskFault → Store → DiskState → Type 0
IsSettledIf known old places mode (Some text) left new t = IsSettled known old places mode text left new t
IsSettledIf known old places mode None left new t = (left ≡ None) × ((new ≡ old) × SaysAlready (book_of old))

-- where it has, the disk is left alone
abbrev pub LeavesAloneIf : Bool → Option (List ℕ) → DiskState → DiskState → Type 0
LeavesAloneIf known None s t = IsTrue known → LeavesAlone s t
LeavesAloneIf known (Some text) s t = Unit {0}

-- FILE was read, with the bytes of the last reading, and has become what is kept; and what is not done says why
pub record IsSettledState {D : Type 0} (known : Bool) (old : Kept D) (left : Option DiskFault) (new : Kept D) (s t : DiskState) : Type 0 where
  pub read : FileRead
  pub was : IsTrue known → IsFileAt old.places.file s read
  pub same : fingerprint read.bytes ≡ (book_in old).file.mark
  pub text : Option (List ℕ)
  pub settled : IsSettledIf known (store_in old) old.places (mode_of read.mode) text left (store_in new) t
  pub alone : LeavesAloneIf known text s t

-- FILE is read, and its bytes are those of the last reading, or not
abbrev pub HasChanged : {D : Type 0} → Bool → Kept D → DiskState → Type 0
HasChanged known old s = (read : FileRead) × (IsTrue known → IsFileAt old.places.file s read) × (bytes_eq (fingerprint read.bytes) (book_in old).file.mark ≡ false)

abbrev pub IsUnchanged : {D : Type 0} → Bool → Kept D → DiskState → Type 0
IsUnchanged known old s = (read : FileRead) × (IsTrue known → IsFileAt old.places.file s read) × (fingerprint read.bytes ≡ (book_in old).file.mark)

-- why FILE does not become what is kept
abbrev pub IsWhyUnsettledState : {D : Type 0} → Bool → Kept D → DiskState → SettleWhy → Type 0
IsWhyUnsettledState known old s (Unread fault) = IsTrue known → IsWhyUnread old.places.file s fault
IsWhyUnsettledState known old s Changed = HasChanged known old s
IsWhyUnsettledState known old s (Unwritten fault) = IsUnchanged known old s × IsWhyUnsaid (book_in old) fault
IsWhyUnsettledState known old s (Disk fault) = IsUnchanged known old s
IsWhyUnsettledState known old s OutOfMemory = Unit {0}

-- what a crash leaves once FILE is there: the old copy, and the journal with every change and the mark of FILE; or FILE as the copy,
-- and that journal or one without its records; and all else as it was
pub record HandingOver (store : Store) (places : Places) (mode : ℕ) (text : List ℕ) (s : DiskState) (c : Image) : Type 0 where
  pub was : Image
  pub before : s.may_leave was
  pub elsewhere : (other : List ℕ) → bytes_eq places.file other ≡ false → bytes_eq places.journal other ≡ false → bytes_eq places.copy other ≡ false → c other ≡ was other
  pub file : c places.file ≡ Some (record { mode = mode; bytes = text })
  pub both : ((c places.copy ≡ was places.copy) × StandsFor (bytes_of_file (c places.journal)) (lines_in store ++ mark_line text ∷ []))
      ⊎ ((c places.copy ≡ Some (copy_with text))
      × (StandsFor (bytes_of_file (c places.journal)) (lines_in store ++ mark_line text ∷ []) ⊎ StandsFor (bytes_of_file (c places.journal)) (damaged (lines_in store))))

-- what a crash leaves meanwhile: all as it might have been left before; or what the settling of FILE leaves; or, with FILE, what is left
-- while the journal is handed over
abbrev pub LeftBySettling : Store → Places → DiskState → Image → Type 0
LeftBySettling store places s c = s.may_leave c
    ⊎ ((file : File) × (s.seen places.file ≡ Some file) × (LeftByMove store places.file (mode_of file.mode) s c
    ⊎ ((text : List ℕ) × (v : Served) × SaysAllKept (book_of store) text v × HandingOver store places (mode_of file.mode) text s c)))
