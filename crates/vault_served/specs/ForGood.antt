-- ForGood: the inventory of a text for a watch, where a need that is `always` lasts to the last moment; and needs that are set.
-- Source: this project's own.
use Rattle.std.specs.Prelude.{ℕ, Bool, false, if◌then◌else◌, List, Result, Ok, length, map, slice_index, slice_index_or}
use Rattle.std.specs.List.{range_with_len}
use Rattle.plan_forest.specs.Forest.{Forest, entry_at}
use Rattle.base_moment.specs.declared.moment.TheConstants.{LAST}
use Rattle.vault_inventory.specs.{declared.fault.InvFault.InvFault, declared.note.EntryNote.EntryNote, Inventories.Inventory, Inventory.read_served, Served.Served}
use Rattle.vault_inventory.specs.Answers.{◌>>=◌}

-- which entries are needed as long as they can be kept
unfoldable pub marks : List EntryNote → List Bool
marks notes = map (λ note. note.is_always) notes

-- an inventory with these needs
unfoldable pub inventory_with_needs : Inventory → List ℕ → Inventory
inventory_with_needs v needs = record v { forest = record v.forest { entries = map (λ i. record (entry_at v.forest.entries i) { need = slice_index needs i }) (range_with_len 0 (length v.forest.entries)) } }

-- the need of the entry i where one that is needed as long as it can be kept is needed until the last moment
unfoldable pub need_for_good : Forest → List Bool → ℕ → ℕ
need_for_good g always i = if slice_index_or always i false then LAST else (entry_at g.entries i).need

unfoldable pub needs_for_good : Forest → List Bool → List ℕ
needs_for_good g always = map (need_for_good g always) (range_with_len 0 (length g.entries))

-- what was read of an inventory, for a watch
unfoldable pub served_for_good : Served → Inventory
served_for_good v = inventory_with_needs v.inventory (needs_for_good v.inventory.forest (marks v.notes))

-- the inventory of a text, for a watch, which looks each entry up and plans as it goes
unfoldable pub inventory_for_good : List ℕ → Result Inventory InvFault
inventory_for_good bytes = read_served bytes >>= λ v. Ok (served_for_good v)
