-- Settled: a text that says what rows, a margin and a maximum TTL of the system say.
-- Source: this project's own.
use Rattle.std.specs.Prelude.{◌≡◌, ℕ, ◌≤◌, List, Option, is_some, Ok, length, unwrap_or}
use Rattle.vault_inventory.specs.{declared.limits.TheConstants.MOST_INVENTORY, Inventory.read_served, Served.Served}
use Rattle.state_changes.specs.{declared.row.Row.Row, Listed.rows_of_served}
use Rattle.state_file.specs.Order.{in_order}

-- the text is read as that inventory, whose rows are these in order, with the margin and the maximum TTL of the system that are written,
-- where they are
pub record TextIsSettled (margin most : Option ℕ) (rows : List Row) (text : List ℕ) (v : Served) : Type 0 where
  pub read : read_served text ≡ Ok v
  pub listed : rows_of_served v ≡ in_order rows
  pub margin_is : v.inventory.forest.margin ≡ unwrap_or margin 1
  pub has_margin : v.has_margin ≡ is_some margin
  pub most_is : v.system_max ≡ most
  pub short : length text ≤ MOST_INVENTORY
