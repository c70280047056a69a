-- An inventory while its tables are read, and the step by which it takes an entry.
use Rattle.std.specs.Prelude.{◌≡◌, ℕ, Bool, List, [], ◌∷◌, ◌++◌, Option, Some, None, Result, Ok, Err, length, bytes_eq, if◌then◌else◌}
use Rattle.std.specs.List.{list_any}
use Rattle.plan_forest.specs.{declared.entry.Entry.Entry, declared.fault.TreeFault.TreeFault, Forest.Forest, Push.entry_refusal}
use Rattle.plan_forest.specs.declared.fault.TreeFault.TheVariants as trees
use Rattle.vault_inventory.specs.{declared.fault.InvFault.InvFault, declared.key.Key.Key, declared.note.EntryNote.EntryNote, declared.row.TableRow.TableRow, declared.terms.Terms.Terms, Answers.◌>>=◌, Answers.FailsWithInvFault}
use Rattle.vault_inventory.specs.{Inventories.Inventory}
use Rattle.vault_inventory.specs.declared.fault.InvFault.TheVariants.{Tree, BadValue, OutOfMemory}
use Rattle.vault_inventory.specs.declared.key.Key.TheVariants.{Secret, SecretFile, LeaseId, LeaseIdFile}

-- the forest so far, the secrets of its tokens, the ids of its leases, and the terms and the notes of both
pub record Intake : Type 0 where
  pub forest : Forest
  pub secrets : List (List ℕ)
  pub lease_ids : List (List ℕ)
  pub terms : List Terms
  pub notes : List EntryNote

abbrev pub empty_intake : ℕ → Intake
empty_intake margin = record { forest = record { entries = []; margin = margin }; secrets = []; lease_ids = []; terms = []; notes = [] }

-- all tokens stand before all leases, and so do their credentials
abbrev pub inventory_of_intake : Intake → Inventory
inventory_of_intake s = record { forest = s.forest; credentials = s.secrets ++ s.lease_ids; terms = s.terms }

abbrev pub appended : Forest → Entry → Option TreeFault → Result Forest InvFault
appended g e (Some fault) = Err (Tree (length g.entries) fault)
appended g e None = Ok (record g { entries = g.entries ++ e ∷ [] })

-- what a forest says of the entry at an index: why it refuses that, or that memory was wanting
abbrev pub tree_fault_told : ℕ → TreeFault → InvFault
tree_fault_told index trees.OutOfMemory = OutOfMemory
tree_fault_told index fault = Tree index fault

-- a forest with one entry more, or why it refuses that
unfoldable pub pushed : Forest → Entry → Result Forest InvFault
pushed g e = appended g e (entry_refusal g e)

-- one of these texts has these bytes
unfoldable pub has_text : List (List ℕ) → List ℕ → Bool
has_text texts text = list_any (λ t. bytes_eq t text) texts

-- one text more, which none of them may be
unfoldable pub distinct : Key → ℕ → List (List ℕ) → List ℕ → Result (List (List ℕ)) InvFault
distinct key index texts text = if has_text texts text then Err (BadValue (Some index) key) else Ok (texts ++ text ∷ [])

-- the key that writes the credential of an entry, or the name of its file
abbrev pub key_written : Key → Key → Option (List ℕ) → Key
key_written key file_key None = key
key_written key file_key (Some file) = file_key

-- one token more
unfoldable pub with_token : Intake → TableRow → Result Intake InvFault
with_token s row = do
  forest ← pushed s.forest row.entry
  secrets ← distinct (key_written Secret SecretFile row.note.file) (length s.forest.entries) s.secrets row.credential
  Ok (record { forest = forest; secrets = secrets; lease_ids = s.lease_ids; terms = s.terms ++ row.terms ∷ []; notes = s.notes ++ row.note ∷ [] })

-- one lease more
unfoldable pub with_lease : Intake → TableRow → Result Intake InvFault
with_lease s row = do
  forest ← pushed s.forest row.entry
  lease_ids ← distinct (key_written LeaseId LeaseIdFile row.note.file) (length s.forest.entries) s.lease_ids row.credential
  Ok (record { forest = forest; secrets = s.secrets; lease_ids = lease_ids; terms = s.terms ++ row.terms ∷ []; notes = s.notes ++ row.note ∷ [] })

-- a step that changes a value, against the definition of the step
abbrev pub Changes : {X : Type 0} → Result X InvFault → X → Result (Unit {0}) InvFault → Type 0
Changes answer new (Ok u) = answer ≡ Ok new
Changes answer new (Err e) = FailsWithInvFault e answer
