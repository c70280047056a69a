-- Starts: why an inventory that can be read is not served.
-- Source: this project's own; docs/commands/serve.md.
use Rattle.std.specs.Prelude.{ℕ, ◌+◌, ◌*◌, Bool, not, ◌&&◌, if◌then◌else◌, List, [], ◌∷◌, ◌++◌, Option, Some, None, bytes_eq, is_none, nat_lt}
use Rattle.state_changes.specs.declared.row.Row.{Row}
use Rattle.vault_inventory.specs.{Inventories.credential_at, Served.Served, declared.note.EntryNote.EntryNote}
use Rattle.program_lines.specs.Text.{name_of}
use Rattle.agent_words.specs.{declared.demands.Demands.Demands, declared.fault.StartFault.StartFault}
use Rattle.agent_words.specs.declared.fault.StartFault.TheVariants.{NoMargin, SmallMargin, NoCredential}

-- an entry has neither a credential of its own, so that its name stands for one, nor a file with one
abbrev pub is_bare : Served → ℕ → EntryNote → Bool
is_bare v i note = is_none note.file && bytes_eq (credential_at v.inventory.credentials i) (name_of v.inventory.forest i)

-- the same of a row
abbrev pub is_bare_row : Row → Bool
is_bare_row row = is_none row.file && bytes_eq row.credential row.name

-- how long the margin is at least: four time-outs, and eight where the agent stands behind another
abbrev pub timeouts_where : Option ℕ → ℕ
timeouts_where None = 4
timeouts_where (Some number) = 8

abbrev pub least_margin : Demands → ℕ
least_margin d = timeouts_where d.behind * d.timeout

-- the fault of the margin: it is not written, or is under that
abbrev pub margin_fault : Demands → Served → Option StartFault
margin_fault d v = if not v.has_margin then Some NoMargin else (if nat_lt v.inventory.forest.margin (least_margin d) then Some SmallMargin else None)

-- the fault of each of these entries, which are those from this index on, that is bare
abbrev pub bare_at : Served → ℕ → EntryNote → List StartFault
bare_at v i note = if is_bare v i note then NoCredential i ∷ [] else []

abbrev pub bare_faults : Served → ℕ → List EntryNote → List StartFault
bare_faults v i [] = []
bare_faults v i (note ∷ notes) = bare_at v i note ++ bare_faults v (i + 1) notes

-- a fault, where there is one
abbrev pub fault_list : Option StartFault → List StartFault
fault_list None = []
fault_list (Some fault) = fault ∷ []

-- all faults of what is written: that of the margin; and that of each entry that is bare, where its name may not be sent
unfoldable pub written_faults : Demands → Served → List StartFault
written_faults d v = fault_list (margin_fault d v) ++ (if d.names_are_secrets then [] else bare_faults v 0 v.notes)

-- the first of them
abbrev pub first_listed_fault : List StartFault → Option StartFault
first_listed_fault [] = None
first_listed_fault (fault ∷ faults) = Some fault

unfoldable pub first_start_fault : Demands → Served → Option StartFault
first_start_fault d v = first_listed_fault (written_faults d v)
