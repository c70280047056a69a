-- Telling: what is said of a state folder that was opened: of FILE and its last good copy, of the journal, and of what the files of
-- credentials hold, in this order.
-- Source: docs/running.md, "What the operator sees".
use Rattle.std.specs.Prelude.{◌≡◌, ℕ, ◌==◌, Bool, true, false, if◌then◌else◌, List, [], ◌∷◌, ◌++◌, Option, Some, None, Result, Ok, Err, IfOk, OnErr, codes, decimal, is_none, map}
use Rattle.std.specs.declared.alloc.AllocError.{AllocError}
use Rattle.agent_ledger.specs.{Ledgers.IsFilledOn, Rereading.said_notes, Untouched.IsAsItWas, declared.ledger.Ledger.Ledger}
use Rattle.agent_words.specs.{Reasons.disk_words, declared.said.SaidLine.SaidLine}
use Rattle.agent_words.specs.declared.said.About.TheVariants as abouts
use Rattle.base_disk.specs.declared.fault.DiskFault.{DiskFault}
use Rattle.base_files.specs.Files.{Files}
use Rattle.base_log.specs.declared.level.Level.TheVariants as levels
use Rattle.state_changes.specs.declared.replaying.JournalNote.{JournalNote}
use Rattle.state_keeping.specs.{Places.Places, declared.opening.OpenedState.OpenedState}
use Rattle.state_keeping.specs.States.{Kept, book_in, store_in}
use Rattle.state_store.specs.{Records.records_in, Stores.lines_in}
use Rattle.agent_start.specs.{Later.open_text, declared.start.Start.Start}
use Rattle.agent_system.specs.{Saying.said_as, Whole.folder_of}

-- ---- what was opened

-- that FILE is not served, where it is not
abbrev pub said_of_file : Bool → List SaidLine
said_of_file true = []
said_of_file false = said_as levels.Alert abouts.File (codes "is not served: the last good copy is") ∷ []

-- why FILE has no new last good copy; or why the old one, which is served, could not be synced
abbrev pub said_of_copy : Option DiskFault → Bool → List SaidLine
said_of_copy None is_good = []
said_of_copy (Some fault) true = said_as levels.Warning abouts.Copy (codes "of the file could not be kept: " ++ disk_words fault) ∷ []
said_of_copy (Some fault) false = said_as levels.Alert abouts.Copy (codes "could not be synced, and no change is taken: " ++ disk_words fault) ∷ []

-- how many lines of the journal are no records, and where they are: in the file aside, or in the journal still
abbrev pub damage_words : List ℕ → ℕ → Option DiskFault → List ℕ
damage_words aside count None = (decimal count ++ codes " records cannot be read: they go to ") ++ aside
damage_words aside count (Some fault) = decimal count ++ codes " records cannot be read, and stay where they are"

abbrev pub said_of_damage : List ℕ → ℕ → Option DiskFault → List SaidLine
said_of_damage aside count unkept = if count == 0 then [] else (said_as levels.Alert abouts.Journal (damage_words aside count unkept) ∷ [])

-- this, and then all of that
abbrev pub after_opened : {D : Type 0} → Places → OpenedState D → List SaidLine → List SaidLine
after_opened places o said = ((said ++ said_of_file (is_none o.fault)) ++ said_of_copy o.copy (is_none o.fault)) ++ said_of_damage places.aside o.damaged o.aside

-- ---- its ledger

-- of what the files of credentials hold: what is said where it was to be taken at once; and where nothing of it was, that the looks at
-- files take each by itself
abbrev pub files_line : Result (Option (List ℕ)) AllocError → Option (List ℕ)
files_line (Ok line) = line
files_line (Err e) = Some (codes "what the files of credentials hold could not be taken together: each is taken by itself")

abbrev pub said_of_files : Option (List ℕ) → List SaidLine
said_of_files None = []
said_of_files (Some line) = said_as levels.Alert abouts.SecretFile line ∷ []

-- what the files of credentials hold is taken at once, or nothing of it is; it is said which changes of the journal do not hold any more,
-- and then what is to be said of those files
pub record SaysFilled {D : Type 0} (known : Files) (folder : List ℕ) (now : ℕ) (notes : List JournalNote) (old new : Kept D) (before after : List SaidLine) : Type 0 where
  pub filled : Result (Option (List ℕ)) AllocError
  pub taken : IfOk filled (λ line. IsFilledOn known folder now line old new)
  pub untaken : OnErr filled (IsAsItWas old new)
  pub said : after ≡ (before ++ map (said_as levels.Note abouts.Journal) (said_notes (book_in old).file.margin (records_in (lines_in (store_in old))) notes)) ++ said_of_files (files_line filled)

-- at a start, which serves it from then on
pub record SaysAtStart {D : Type 0} (known : Files) (folder : List ℕ) (notes : List JournalNote) (old new : Kept D) (before after : List SaidLine) : Type 0 where
  pub mid : Kept D
  pub says : SaysFilled known folder 0 notes old mid before after
  pub store : store_in new ≡ store_in mid

-- ---- all of it

-- a start over what was opened, by the files of credentials, says this and no more after what was said before
pub record SaysStart {D I L : Type 0} (known : Files) (places : Places) (o : OpenedState D) (before : List SaidLine) (s : Start (Ledger D I L)) : Type 0 where
  pub ledger : Ledger D I L
  pub is_there : s.ledger ≡ Some ledger
  pub says : SaysAtStart known (folder_of places.file) o.notes.items o.state ledger.state (after_opened places o before) s.said.items

-- a folder of that name that is opened later says this, and at the end that it can be used
pub record SaysLater {D I L : Type 0} (known : Files) (places : Places) (o : OpenedState D) (name : List ℕ) (now : ℕ) (before : List SaidLine) (l : Ledger D I L) (after : List SaidLine) : Type 0 where
  pub heard : List SaidLine
  pub says : SaysFilled known (folder_of places.file) now o.notes.items o.state l.state (after_opened places o before) heard
  pub said : after ≡ heard ++ said_as levels.Note abouts.Folder (open_text name) ∷ []
