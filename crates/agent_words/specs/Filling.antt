-- Filling: entries whose credentials stand in files, with what these files hold.
-- Source: this project's own; docs/inventory.md, "Secrets in files".
use Rattle.std.specs.Prelude.{◌≡◌, ◌⊎◌, ℕ, ◌+◌, Bool, true, false, List, [], ◌∷◌, ◌++◌, Option, Some, None, Ok, Err, is_none}
use Rattle.std.specs.{List.list_all, Str.is_utf8}
use Rattle.state_changes.specs.declared.row.Row.{Row}
use Rattle.base_device.specs.declared.fault.InputFault.TheVariants as inputs
use Rattle.base_files.specs.Files.{FileIsRead, Files}
use Rattle.vault_inventory.specs.{Values.is_credential, declared.note.EntryNote.EntryNote}
use Rattle.state_secrets.specs.{Credentials.placed, declared.credential.TheConstants.MOST_SECRET}
use Rattle.base_words.specs.Texts.{stripped}
use Rattle.agent_words.specs.{Starts.fault_list, declared.fault.StartFault.StartFault}
use Rattle.agent_words.specs.declared.fault.StartFault.TheVariants as faults

-- ---- a row

-- the file at a path holds a credential
abbrev pub FileHolds : Files → List ℕ → List ℕ → Type 0
FileHolds known path credential = (text : List ℕ) × (FileIsRead (known path) MOST_SECRET (Ok text) × ((credential ≡ stripped text) × (is_credential credential ≡ true)))

-- it cannot be read, or its path is no text; or it is too long, or holds none
abbrev pub FileIsUnreadable : Files → List ℕ → Type 0
FileIsUnreadable known path = (is_utf8 path ≡ false) ⊎ FileIsRead (known path) MOST_SECRET (Err inputs.ReadFailed)

abbrev pub HoldsNone : Files → List ℕ → Type 0
HoldsNone known path = FileIsRead (known path) MOST_SECRET (Err inputs.TooLong) ⊎ ((text : List ℕ) × (FileIsRead (known path) MOST_SECRET (Ok text) × (is_credential (stripped text) ≡ false)))

-- a row with what its file holds, in the place of the file
abbrev pub FillsFrom : Files → List ℕ → Row → Row → Option (List ℕ) → Type 0
FillsFrom known folder r f None = f ≡ r
FillsFrom known folder r f (Some path) = (credential : List ℕ) × (FileHolds known (placed folder path) credential × (f ≡ record r { credential = credential; file = None }))

unfoldable pub FillsRow : Files → List ℕ → Row → Row → Type 0
FillsRow known folder r f = FillsFrom known folder r f r.file

-- why there is none
abbrev pub FillingFails : Files → List ℕ → ℕ → StartFault → Type 0
FillingFails known path i (faults.NoFile j) = (j ≡ i) × FileIsUnreadable known path
FillingFails known path i (faults.NoSecret j) = (j ≡ i) × HoldsNone known path
FillingFails known path i fault = ⊥

unfoldable pub CannotFill : Files → List ℕ → ℕ → Row → StartFault → Type 0
CannotFill known folder i r fault = (path : List ℕ) × ((r.file ≡ Some path) × FillingFails known (placed folder path) i fault)

-- ---- rows

abbrev pub AreFilled : Files → List ℕ → List Row → List Row → Type 0
AreFilled known folder [] [] = Unit {0}
AreFilled known folder (r ∷ rs) (f ∷ fs) = FillsRow known folder r f × AreFilled known folder rs fs
AreFilled known folder [] (f ∷ fs) = ⊥
AreFilled known folder (r ∷ rs) [] = ⊥

-- the first that cannot be filled, from this index on; those before it can
abbrev pub FirstUnfilled : Files → List ℕ → ℕ → List Row → StartFault → Type 0
FirstUnfilled known folder i [] fault = ⊥
FirstUnfilled known folder i (r ∷ rs) fault = CannotFill known folder i r fault ⊎ ((f : Row) × (FillsRow known folder r f × FirstUnfilled known folder (i + 1) rs fault))

-- the fault of a row, where it cannot be filled
abbrev pub IsFaultOfRow : Files → List ℕ → ℕ → Row → Option StartFault → Type 0
IsFaultOfRow known folder i r None = (f : Row) × FillsRow known folder r f
IsFaultOfRow known folder i r (Some fault) = CannotFill known folder i r fault

-- the fault of each row that cannot be filled, from this index on; the others can
abbrev pub AreUnfilled : Files → List ℕ → ℕ → List Row → List StartFault → Type 0
AreUnfilled known folder i [] faults = faults ≡ []
AreUnfilled known folder i (r ∷ rs) faults =
    (fault : Option StartFault) × (IsFaultOfRow known folder i r fault × ((rest : List StartFault) × (AreUnfilled known folder (i + 1) rs rest × (faults ≡ fault_list fault ++ rest))))

-- no entry names a file
abbrev pub names_no_file : List EntryNote → Bool
names_no_file notes = list_all (λ note. is_none note.file) notes
