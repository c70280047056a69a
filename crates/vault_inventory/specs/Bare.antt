-- Bare: a document without what is secret in it, the values of tokens and the ids of leases.
use Rattle.std.specs.Prelude.{◌≡◌, ℕ, Bool, ◌||◌, List, Ok, codes, bytes_eq, if◌then◌else◌}
use Rattle.toml.specs.Data.{Data, string, integer, float, boolean, datetime, array, table, Items, no_items, item, Members, no_members, member}
use Rattle.vault_inventory.specs.Inventory.{document_tree}

-- the keys whose values are secret
unfoldable pub is_secret_key : List ℕ → Bool
is_secret_key k = bytes_eq k (codes "secret") || bytes_eq k (codes "lease_id")

-- a tree without the keys `secret` and `lease_id`, wherever they stand in it
abbrev mutual
  pub bare_value : Data → Data
  bare_value (string s) = string s
  bare_value (integer z) = integer z
  bare_value (float x) = float x
  bare_value (boolean b) = boolean b
  bare_value (datetime dt) = datetime dt
  bare_value (array ds) = array (bare_items ds)
  bare_value (table ms) = table (bare_members ms)

  pub bare_items : Items → Items
  bare_items no_items = no_items
  bare_items (item d ds) = item (bare_value d) (bare_items ds)

  pub bare_members : Members → Members
  bare_members no_members = no_members
  bare_members (member k d ms) = if is_secret_key k then bare_members ms else member k (bare_value d) (bare_members ms)

-- the trees of two documents are the same but for the keys `secret` and `lease_id` and their values
pub record DocumentsAreAlike (bytes other : List ℕ) : Type 0 where
  pub tree : Members
  pub reads : document_tree bytes ≡ Ok tree
  pub other_tree : Members
  pub other_reads : document_tree other ≡ Ok other_tree
  pub same : bare_members tree ≡ bare_members other_tree
