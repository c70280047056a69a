-- Served: an inventory as it is written, with what its tables leave open: ends that a lookup tells, needs that are `always`, and
-- credentials that stand in files.
-- Source: this project's own.
use Rattle.std.specs.Prelude.{◌≡◌, ℕ, ◌+◌, Bool, false, List, [], ◌∷◌, Option, Some, None, Result, Ok, Err, length, slice_index_or, if◌then◌else◌}
use Rattle.vault_inventory.specs.{declared.fault.InvFault.InvFault, declared.note.EntryNote.EntryNote, Inventories.Inventory, Inventories.IsInventory}
use Rattle.vault_inventory.specs.declared.fault.InvFault.TheVariants.{BadValue, MissingKey}
use Rattle.vault_inventory.specs.declared.key.Key.TheVariants.{Issued, Need}

-- the inventory, in which an end that is left open is 0, as is its issue, a need that is `always` is none, and the name stands
-- for a credential in a file; a note for each entry; whether the margin is written; and the maximum TTL of the system, where that is
pub record Served : Type 0 where
  pub inventory : Inventory
  pub notes : List EntryNote
  pub has_margin : Bool
  pub system_max : Option ℕ

-- what is read past the last entry
abbrev pub no_note : EntryNote
no_note = record { is_told = false; is_always = false; file = None }

-- the note of an entry
unfoldable pub note_at : List EntryNote → ℕ → EntryNote
note_at notes i = slice_index_or notes i no_note

-- what it always keeps
pub record IsServedInventory (v : Served) : Type 0 where
  pub inventory : IsInventory v.inventory
  pub notes : length v.notes ≡ length v.inventory.forest.entries

-- the first of these tables, which are those from this index on, that leaves its end to a lookup
abbrev pub first_untold : ℕ → List EntryNote → Option ℕ
first_untold index [] = None
first_untold index (note ∷ notes) = if note.is_told then first_untold (index + 1) notes else Some index

abbrev pub told_unless : Served → Option ℕ → Result Served InvFault
told_unless v None = Ok v
told_unless v (Some index) = Err (MissingKey index Issued)

-- what is served, where each table writes its end
unfoldable pub served_if_told : Served → Result Served InvFault
served_if_told v = told_unless v (first_untold 0 v.notes)

-- why a table cannot be planned: neither its issue nor its end is written
abbrev pub open_fault : ℕ → EntryNote → Option InvFault
open_fault index note = if note.is_told then (if note.is_always then Some (BadValue (Some index) Need) else None) else Some (MissingKey index Issued)

-- the first fault of these, which are those from this index on
abbrev pub first_open : ℕ → List EntryNote → Option InvFault
first_open index [] = None
first_open index (note ∷ notes) = elim (open_fault index note) [ Some fault ↦ Some fault | None ↦ first_open (index + 1) notes ]

abbrev pub unless : {A : Type 0} → A → Option InvFault → Result A InvFault
unless x None = Ok x
unless x (Some fault) = Err fault

-- the inventory, where nothing is left open
unfoldable pub inventory_if_whole : Served → Result Inventory InvFault
inventory_if_whole v = unless v.inventory (first_open 0 v.notes)
