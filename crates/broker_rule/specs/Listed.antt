-- Listed: the rows that are left of an inventory at a moment, said by its forest.
-- Source: Vault, "Tokens" (a token's end ends its children and leases); Vault, "Lease, renew, and revoke".
use Rattle.std.specs.Prelude.{ℕ, ◌+◌, Bool, List, filter, length, map}
use Rattle.std.specs.List.{range_with_len}
use Rattle.plan_forest.specs.{Forest.Forest, Forest.end_of, Renewal.all_last}
use Rattle.vault_inventory.specs.Inventories.{Inventory}
use Rattle.broker_rule.specs.{declared.row.BrokerRow.BrokerRow, Rows.broker_row}

-- each entry over i (itself included) ends after t
unfoldable pub is_entry_alive : Forest → ℕ → ℕ → Bool
is_entry_alive g t i = all_last g.entries (end_of g.entries) (t + 1) i

-- the rows of the entries that are alive at t
unfoldable pub rows_listed : Inventory → ℕ → List BrokerRow
rows_listed s t = map (broker_row s) (filter (is_entry_alive s.forest t) (range_with_len 0 (length s.forest.entries)))
