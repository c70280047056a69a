-- Rows: what a broker lists of each token and lease, and the rows of an inventory.
-- Source: Vault, "Tokens"; Vault, "Lease, renew, and revoke".
use Rattle.std.specs.Prelude.{ℕ, List, Option, length, map, option_map, bytes_eq}
use Rattle.std.specs.List.{find, range_with_len}
use Rattle.plan_forest.specs.Forest.{entry_at}
use Rattle.vault_inventory.specs.Inventories.{Inventory, terms_at, credential_at}
use Rattle.broker_rule.specs.declared.row.BrokerRow.{BrokerRow}

-- the row of the entry at an index: its parent by name, and of its terms those that a renewal or a lookup speaks of
unfoldable pub broker_row : Inventory → ℕ → BrokerRow
broker_row s i = record {
  name = (entry_at s.forest.entries i).name;
  kind = (entry_at s.forest.entries i).kind;
  parent = option_map (λ p. (entry_at s.forest.entries p).name) (entry_at s.forest.entries i).parent;
  end = (entry_at s.forest.entries i).end;
  renewable = (entry_at s.forest.entries i).renewable;
  step = (entry_at s.forest.entries i).step;
  ceiling = (entry_at s.forest.entries i).ceiling;
  issued = (terms_at s.terms i).issued;
  period = (terms_at s.terms i).period;
  explicit_max = (terms_at s.terms i).explicit_max;
  credential = credential_at s.credentials i;
}

-- the rows of an inventory: one for each entry, in their order
unfoldable pub broker_rows : Inventory → List BrokerRow
broker_rows s = map (broker_row s) (range_with_len 0 (length s.forest.entries))

-- the row of that name, if it is listed
unfoldable pub row_named : List BrokerRow → List ℕ → Option BrokerRow
row_named rows name = find (λ r. bytes_eq r.name name) rows
