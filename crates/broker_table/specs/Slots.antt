-- Slots: how the rows lie in memory. Each keeps its place, knows the place of the row over it, and is listed or not.
use Rattle.std.specs.Prelude.{◌≡◌, ℕ, ◌<◌, ◌≤◌, ◌-◌, ◌^◌, Bool, true, false, ◌&&◌, List, [], ◌∷◌, Option, Some, None, length, map, nat_lt, slice_index_or, if◌then◌else◌}
use Rattle.std.specs.List.{range_with_len}
use Rattle.plan_forest.specs.{Forest.entry_at, declared.entry.Kind.TheVariants.Token, declared.forest.TheConstants.MAX_ENTRIES}
use Rattle.vault_inventory.specs.Inventories.{Inventory}
use Rattle.broker_rule.specs.{declared.row.BrokerRow.BrokerRow, Rows.broker_row, Sweep.lives}
use Rattle.broker_table.specs.declared.slot.Slot.{Slot}

-- what is read past the last slot
unfoldable pub no_slot : Slot
no_slot = record {
  row = record { name = []; kind = Token; parent = None; end = 0; renewable = false; step = 0; ceiling = None; issued = 0; period = 0; explicit_max = 0; credential = [] };
  over = None;
  listed = false;
}

unfoldable pub slot_at : List Slot → ℕ → Slot
slot_at slots i = slice_index_or slots i no_slot

-- the rows that are listed
unfoldable pub listed_rows : List Slot → List BrokerRow
listed_rows [] = []
listed_rows (s ∷ slots) = if s.listed then s.row ∷ listed_rows slots else listed_rows slots

-- the place of the row over a slot is that of its parent's name, and in front of it
abbrev pub IsTied : List Slot → ℕ → Option ℕ → Option (List ℕ) → Type 0
IsTied slots i None parent = parent ≡ None
IsTied slots i (Some p) parent = (p < i) × (parent ≡ Some (slot_at slots p).row.name)

-- what all slots of a table keep
pub record AreSlots (slots : List Slot) : Type 0 where
  pub few : length slots ≤ MAX_ENTRIES
  pub apart : (i j : ℕ) → i < length slots → j < length slots → (slot_at slots i).row.name ≡ (slot_at slots j).row.name → i ≡ j
  pub tied : (i : ℕ) → i < length slots → IsTied slots i (slot_at slots i).over (slot_at slots i).row.parent

-- the slot over another is listed, where there is one
abbrev pub is_listed : List Slot → Option ℕ → Bool
is_listed slots None = true
is_listed slots (Some p) = (slot_at slots p).listed

-- of the first n slots no listed one ends before that moment
abbrev pub EndFrom : ℕ → ℕ → List Slot → Type 0
EndFrom soonest n slots = (i : ℕ) → i < n → (slot_at slots i).listed ≡ true → soonest ≤ (slot_at slots i).row.end

-- what the slots of a table keep between two sweeps: no listed one ends before that moment, and the one over it is listed
pub record AreKept (soonest : ℕ) (slots : List Slot) : Type 0 where
  pub sound : AreSlots slots
  pub ends : EndFrom soonest (length slots) slots
  pub over : (i : ℕ) → i < length slots → (slot_at slots i).listed ≡ true → is_listed slots (slot_at slots i).over ≡ true

-- the end of a listed slot, of another the greatest u64
unfoldable pub end_in_slot : Slot → ℕ
end_in_slot s = if s.listed then s.row.end else 2 ^ 64 - 1

-- the slots of an inventory
unfoldable pub slot_of : Inventory → ℕ → Slot
slot_of s i = record { row = broker_row s i; over = (entry_at s.forest.entries i).parent; listed = true }

unfoldable pub slots_of : Inventory → List Slot
slots_of s = map (slot_of s) (range_with_len 0 (length s.forest.entries))

-- a slot stays listed, where those before it were judged
unfoldable pub stands : List Slot → ℕ → Slot → Bool
stands slots t s = s.listed && nat_lt t s.row.end && is_listed slots s.over

-- a slot that stays listed where its row passes
unfoldable pub relisted : (BrokerRow → Bool) → Slot → Slot
relisted test s = record s { listed = s.listed && test s.row }

-- the slots after a sweep
unfoldable pub swept_slots : ℕ → List Slot → List Slot
swept_slots t slots = map (relisted (lives (listed_rows slots) t)) slots
