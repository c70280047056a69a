-- Mirrors: rows that a sweep brings to those of the entries that are alive, by the forest as it was told.
-- Source: this project's own.
use Rattle.std.specs.Prelude.{◌≡◌, ℕ, ◌≤◌, List, slice_set}
use Rattle.plan_forest.specs.Forest.{Forest, entry_at}
use Rattle.vault_inventory.specs.Inventories.{Inventory}
use Rattle.broker_rule.specs.{declared.row.BrokerRow.BrokerRow, Listed.rows_listed, Sweep.swept}

-- from t on, a sweep of these rows leaves those of the entries that are alive
abbrev pub Mirrors : Inventory → ℕ → List BrokerRow → Type 0
Mirrors s t rows = (m : ℕ) → t ≤ m → swept m rows ≡ rows_listed s m

-- an inventory with the forest as it was told
abbrev pub with_forest : Inventory → Forest → Inventory
with_forest s g = record { forest = g; credentials = s.credentials; terms = s.terms }

-- the forest with another end for the entry i
unfoldable pub with_entry_end : Forest → ℕ → ℕ → Forest
with_entry_end g i end = record { entries = slice_set g.entries i (record (entry_at g.entries i) { end = end }); margin = g.margin }
