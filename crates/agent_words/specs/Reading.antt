-- Reading: what is served by the text of an inventory, or the fault of the start.
-- Source: this project's own; docs/commands/serve.md.
use Rattle.std.specs.Prelude.{◌≡◌, ◌⊎◌, ◌&&◌, ℕ, ◌+◌, ◌∷◌, ◌++◌, Bool, true, false, is_none, length, nat_eq, nat_lt, List, [], Option, Some, None, Result, Ok, Err}
use Rattle.state_changes.specs.{Listed.rows_of_served, declared.row.Row.Row}
use Rattle.base_files.specs.Files.{Files}
use Rattle.vault_inventory.specs.{Inventories.Inventory, Inventory.read_served, Served.Served, declared.limits.TheConstants.MOST_INVENTORY, declared.note.EntryNote.EntryNote, declared.fault.InvFault.InvFault}
use Rattle.vault_served.specs.ForGood.{inventory_for_good}
use Rattle.state_file.specs.{Settled.TextIsSettled, Unwritten.IsWhyUnwritten, declared.fault.SettleFault.SettleFault}
use Rattle.plan_spread.specs.{Behind.margin_by, Margins.room_of, Margins.wider}
use Rattle.plan_forest.specs.Forest.{Forest}
use Rattle.agent_words.specs.{Starts.first_start_fault, Starts.written_faults, declared.demands.Demands.Demands, declared.fault.StartFault.StartFault}
use Rattle.agent_words.specs.Filling.{AreFilled, AreUnfilled, FirstUnfilled, names_no_file}
use Rattle.agent_words.specs.declared.fault.StartFault.TheVariants as faults

-- the agent wakes up by the margin that is written
abbrev pub keeps_margin : Demands → Bool
keeps_margin d = is_none d.behind && nat_eq d.earlier 0

-- the inventory is served just as it is written: with that margin, and no entry names a file
abbrev pub is_as_written : Demands → List EntryNote → Bool
is_as_written d notes = keeps_margin d && names_no_file notes

-- the margin with which the agent wakes up so much earlier; behind another, the one that its number gives it
abbrev pub margin_where : Option ℕ → ℕ → Forest → ℕ
margin_where None earlier g = wider g.margin earlier (room_of g.entries)
margin_where (Some number) earlier g = margin_by g.margin number

abbrev pub margin_for : Demands → Served → ℕ
margin_for d v = margin_where d.behind d.earlier v.inventory.forest

-- a text that says that margin, and what the entries say with what their files hold
pub record IsFilledText (known : Files) (folder : List ℕ) (d : Demands) (v : Served) (text : List ℕ) : Type 0 where
  pub filled : List Row
  pub are_filled : AreFilled known folder (rows_of_served v) filled
  pub settled : Served
  pub is_settled : TextIsSettled (Some (margin_for d v)) None filled text settled

abbrev pub IsServedText : Demands → Files → List ℕ → List ℕ → Served → List ℕ → Type 0
IsServedText d known folder bytes v text = ((is_as_written d v.notes ≡ true) × (text ≡ bytes)) ⊎ ((is_as_written d v.notes ≡ false) × IsFilledText known folder d v text)

-- the first entry whose file gives nothing
abbrev pub IsUnfilled : Files → List ℕ → Served → StartFault → Type 0
IsUnfilled known folder v fault = FirstUnfilled known folder 0 (rows_of_served v) fault

-- what its files hold does not go together: what the entries say with it cannot be written as one file with that margin, for this reason
abbrev pub NotTogether : Demands → Files → List ℕ → Served → StartFault → Type 0
NotTogether d known folder v fault =
    (why : SettleFault) × ((fault ≡ faults.Together why) × ((filled : List Row) × (AreFilled known folder (rows_of_served v) filled × IsWhyUnwritten (Some (margin_for d v)) None filled why)))

-- ---- the fault of a start

abbrev pub IsNoInventory : List ℕ → StartFault → Type 0
IsNoInventory bytes fault = (why : InvFault) × ((fault ≡ faults.Inventory why) × (read_served bytes ≡ Err why))

-- what is served has that fault; or it has none, and a file does
abbrev pub IsStartFaultOf : Demands → Files → List ℕ → Served → StartFault → Type 0
IsStartFaultOf d known folder v fault = (first_start_fault d v ≡ Some fault) ⊎ ((first_start_fault d v ≡ None) × (IsUnfilled known folder v fault ⊎ NotTogether d known folder v fault))

abbrev pub IsNotServed : Demands → Files → List ℕ → List ℕ → StartFault → Type 0
IsNotServed d known folder bytes fault = (v : Served) × ((read_served bytes ≡ Ok v) × IsStartFaultOf d known folder v fault)

-- ---- what is served

-- the inventory of a text in which files are filled and the margin is as demanded, where a need that is `always` lasts to the last moment; or why there is none
abbrev pub IsToServe : Demands → Files → List ℕ → List ℕ → Result Inventory StartFault → Type 0
IsToServe d known folder bytes (Ok inventory) =
    (v : Served) × ((read_served bytes ≡ Ok v) × ((first_start_fault d v ≡ None) × ((text : List ℕ) × (IsServedText d known folder bytes v text × (inventory_for_good text ≡ Ok inventory)))))
IsToServe d known folder bytes (Err fault) = (fault ≡ faults.OutOfMemory) ⊎ (IsNoInventory bytes fault ⊎ IsNotServed d known folder bytes fault)

-- ---- all faults of a start

-- where there is no other: what its files hold does not go together (or one whose bytes are not known gives nothing any more); or it is served
abbrev pub AreLast : Demands → Files → List ℕ → List ℕ → List StartFault → Type 0
AreLast d known folder bytes [] = (inventory : Inventory) × IsToServe d known folder bytes (Ok inventory)
AreLast d known folder bytes (fault ∷ []) = IsNotServed d known folder bytes fault
AreLast d known folder bytes (fault ∷ next ∷ faults) = ⊥

abbrev pub AreAllOr : (List StartFault → Type 0) → List StartFault → List StartFault → Type 0
AreAllOr Last [] faults = Last faults
AreAllOr Last (first ∷ more) faults = faults ≡ first ∷ more

-- those of what is written, and then those of the files that give nothing, each
abbrev pub AreFaultsOf : Demands → Files → List ℕ → List ℕ → Served → List StartFault → Type 0
AreFaultsOf d known folder bytes v faults =
    (unfilled : List StartFault) × (AreUnfilled known folder 0 (rows_of_served v) unfilled × AreAllOr (AreLast d known folder bytes) (written_faults d v ++ unfilled) faults)

-- a text that is no inventory has one
abbrev pub AreOfNoInventory : List ℕ → List StartFault → Type 0
AreOfNoInventory bytes faults = (fault : StartFault) × (IsNoInventory bytes fault × (faults ≡ fault ∷ []))

abbrev pub AreFaults : Demands → Files → List ℕ → List ℕ → List StartFault → Type 0
AreFaults d known folder bytes faults =
    AreOfNoInventory bytes faults ⊎ ((v : Served) × ((read_served bytes ≡ Ok v) × AreFaultsOf d known folder bytes v faults))

-- the first is why it is not served; where there is none, it is
abbrev pub FirstIsWhy : Demands → Files → List ℕ → List ℕ → List StartFault → Type 0
FirstIsWhy d known folder bytes [] = (inventory : Inventory) × IsToServe d known folder bytes (Ok inventory)
FirstIsWhy d known folder bytes (fault ∷ faults) = IsToServe d known folder bytes (Err fault)

-- ---- all faults of what is written

-- whatever the files hold that the text names: those of its margin and of its entries
abbrev pub AreWrittenFaults : Demands → List ℕ → List StartFault → Type 0
AreWrittenFaults d bytes faults = AreOfNoInventory bytes faults ⊎ ((v : Served) × ((read_served bytes ≡ Ok v) × (faults ≡ written_faults d v)))

-- it has none, and may be served: each file that it names is waited for
abbrev pub IsWellWritten : Demands → List ℕ → Type 0
IsWellWritten d bytes = AreWrittenFaults d bytes []

-- ---- an inventory that is served already, with the margin that is demanded

-- a text that says what that one says, but for the margin
pub record IsWideText (d : Demands) (text wide : List ℕ) : Type 0 where
  pub v : Served
  pub reads : read_served text ≡ Ok v
  pub settled : Served
  pub is_settled : TextIsSettled (Some (margin_for d v)) None (rows_of_served v) wide settled

-- a text in which there is no room for a margin of more digits: it has four at most
abbrev pub is_full : List ℕ → Bool
is_full text = nat_lt MOST_INVENTORY (length text + 3)

-- nothing else is demanded of it; or its text has no room for that
abbrev pub StaysNarrow : Demands → List ℕ → Type 0
StaysNarrow d text = (keeps_margin d ≡ true) ⊎ (is_full text ≡ true)

-- the inventory of such a text; or as it was, where that may be
abbrev pub IsWide : Demands → List ℕ → Inventory → Inventory → Type 0
IsWide d text narrow inventory = (StaysNarrow d text × (inventory ≡ narrow)) ⊎ ((wide : List ℕ) × (IsWideText d text wide × (inventory_for_good wide ≡ Ok inventory)))
