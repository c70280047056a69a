-- Unwritten: why what rows say cannot be written as one file.
-- Source: this project's own.
use Rattle.std.specs.Prelude.{◌≡◌, ℕ, List, Option, Ok, Err, is_some, unwrap_or}
use Rattle.vault_inventory.specs.{Inventory.read_served, Served.Served}
use Rattle.state_changes.specs.declared.row.Row.{Row}
use Rattle.state_file.specs.{declared.fault.SettleFault.SettleFault, FileText.IsPrinted, FileText.IsTooLong, Order.in_order, Settled.TextIsSettled}
use Rattle.state_file.specs.declared.fault.SettleFault.TheVariants.{Differs, OutOfMemory, Refused, TooLong}
use Rattle.state_file.specs.declared.text.Form.TheVariants.{Words, Seconds}

-- ---- the steps

-- no text of these rows is short enough: for private clauses, as are the next two
unfoldable pub IsWhyUnprinted : Option ℕ → Option ℕ → List Row → SettleFault → Type 0
IsWhyUnprinted margin most rows TooLong = IsTooLong Words margin most rows × IsTooLong Seconds margin most rows
IsWhyUnprinted margin most rows OutOfMemory = Unit {0}
IsWhyUnprinted margin most rows fault = ⊥

-- the text is read as no inventory
unfoldable pub IsWhyNoInventory : List ℕ → SettleFault → Type 0
IsWhyNoInventory text (Refused fault) = read_served text ≡ Err fault
IsWhyNoInventory text OutOfMemory = Unit {0}
IsWhyNoInventory text fault = ⊥

-- or as one with another margin, or another maximum TTL of the system
unfoldable pub IsWhyUnread : Option ℕ → Option ℕ → List ℕ → SettleFault → Type 0
IsWhyUnread margin most text (Refused fault) = read_served text ≡ Err fault
IsWhyUnread margin most text Differs = (v : Served) × (read_served text ≡ Ok v) × ((v.inventory.forest.margin ≡ unwrap_or margin 1) → (v.has_margin ≡ is_some margin) → (v.system_max ≡ most) → ⊥)
IsWhyUnread margin most text OutOfMemory = Unit {0}
IsWhyUnread margin most text TooLong = ⊥

-- ---- the whole

-- the text is too long in words and in seconds; it is read as no inventory, with this fault; or it is read as one that does not say
-- what these rows, this margin and this maximum TTL of the system say
unfoldable pub IsWhyUnwritten : Option ℕ → Option ℕ → List Row → SettleFault → Type 0
IsWhyUnwritten margin most rows TooLong = IsTooLong Words margin most (in_order rows) × IsTooLong Seconds margin most (in_order rows)
IsWhyUnwritten margin most rows (Refused fault) = (text : List ℕ) × IsPrinted margin most (in_order rows) text × (read_served text ≡ Err fault)
IsWhyUnwritten margin most rows Differs =
    (text : List ℕ) × IsPrinted margin most (in_order rows) text × ((v : Served) × (read_served text ≡ Ok v) × (TextIsSettled margin most rows text v → ⊥))
IsWhyUnwritten margin most rows OutOfMemory = Unit {0}
