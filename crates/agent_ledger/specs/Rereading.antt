-- Rereading: what is said of a file that is read again, or why it is not served.
-- Source: docs/running.md, "What the operator sees".
use Rattle.std.specs.Prelude.{◌≡◌, ◌⊎◌, ℕ, ◌-◌, ◌==◌, if◌then◌else◌, Bool, IsTrue, List, [], ◌∷◌, ◌++◌, Option, Some, None, codes, length, take}
use Rattle.state_changes.specs.{declared.change.Record.Record, declared.replaying.JournalNote.JournalNote}
use Rattle.base_disk.specs.{State.DiskState, declared.fault.DiskFault.DiskFault}
use Rattle.state_file.specs.declared.fault.ReadFault.{ReadFault}
use Rattle.state_keeping.specs.{Noted.note_lines, Reading.IsWhyUnread, States.Kept, States.store_in}
use Rattle.state_store.specs.{Books.IsFileFaultOf, Records.records_in, Stores.book_of, Stores.lines_in, declared.fault.FileFault.FileFault, declared.store.Store.Store}
use Rattle.agent_words.specs.{Noting.SaysFaults, Reasons.disk_words, Reasons.unread_words, declared.demands.Demands.Demands}
use Rattle.agent_ledger.specs.Reasons.{book_words, left_words}

-- the file has these bytes
abbrev pub AreBytesOf : {D : Type 0} → Bool → (D → DiskState) → Kept D → List ℕ → Type 0
AreBytesOf known seen kept bytes = (mode : ℕ) × (IsTrue known → (seen kept.disk).seen kept.places.file ≡ Some (record { mode = mode; bytes = bytes }))

-- ---- why it is not served

-- it is not read
abbrev pub SaysUnread : {D : Type 0} → Bool → (D → DiskState) → Kept D → List ℕ → Type 0
SaysUnread known seen kept why = (fault : ReadFault) × ((IsTrue known → IsWhyUnread kept.places.file (seen kept.disk) fault) × (why ≡ unread_words fault))

-- it is none with the changes of the journal, and what was taken of files of credentials
abbrev pub SaysNoBook : Store → List ℕ → List ℕ → Type 0
SaysNoBook store bytes why = (fault : FileFault) × (IsFileFaultOf (Some bytes) (records_in (lines_in store)) (book_of store).secrets fault × (why ≡ book_words fault))

-- the reason, where there is one; or none, where memory was wanting for it
abbrev pub AreAtMost : Option (List ℕ) → List (List ℕ) → Type 0
AreAtMost None whys = whys ≡ []
AreAtMost (Some why) whys = (whys ≡ []) ⊎ (whys ≡ why ∷ [])

-- there is one reason, or none where memory was wanting for it
abbrev pub IsOneWhy : (List ℕ → Type 0) → List (List ℕ) → Type 0
IsOneWhy Says [] = Unit {0}
IsOneWhy Says (why ∷ []) = Says why
IsOneWhy Says (why ∷ next ∷ whys) = ⊥

-- what may be wrong with these bytes; nothing is said of their faults where memory was wanting for that
abbrev pub SaysBad : Demands → Store → List ℕ → List (List ℕ) → Type 0
SaysBad demands store bytes whys = ((whys ≡ []) ⊎ SaysFaults demands bytes whys) ⊎ IsOneWhy (SaysNoBook store bytes) whys

abbrev pub IsWhyNotReread : {D : Type 0} → Bool → (D → DiskState) → Demands → Kept D → List (List ℕ) → Type 0
IsWhyNotReread known seen demands kept whys =
    IsOneWhy (SaysUnread known seen kept) whys ⊎ ((bytes : List ℕ) × (AreBytesOf known seen kept bytes × SaysBad demands (store_in kept) bytes whys))

-- ---- what is said where it is served

-- so many changes are not said one by one
abbrev pub left_lines : ℕ → List (List ℕ)
left_lines left = if left == 0 then [] else left_words left ∷ []

-- a hundred changes at most are said, and then how many more there are
unfoldable pub said_notes : ℕ → List Record → List JournalNote → List (List ℕ)
said_notes margin records notes = note_lines margin records (take 100 notes) ++ left_lines (length notes - 100)

-- which changes do not hold any more; or nothing, where memory was wanting for that
abbrev pub SaysNotes : ℕ → List Record → List JournalNote → List (List ℕ) → Type 0
SaysNotes margin records notes said = (said ≡ said_notes margin records notes) ⊎ (said ≡ [])

-- why its copy could not be kept; or nothing, where memory was wanting for that
abbrev pub SaysCopy : Option DiskFault → Option (List ℕ) → Type 0
SaysCopy None said = said ≡ None
SaysCopy (Some fault) None = Unit {0}
SaysCopy (Some fault) (Some said) = said ≡ codes "of the file could not be kept: " ++ disk_words fault
