-- Laws of inventories from a start on. Each is the contract of a public function without a body.
use Rattle.std.specs.Prelude.{◌≡◌, ℕ, ◌≤◌, false, true, List, Ok}
use Rattle.plan_forest.specs.Forest.{end_of, entry_at}
use Rattle.plan_rule.specs.Unkeepable.{AllKeepable}
use Rattle.tick_keeper.specs.{Always.is_always_needed, Shorten.is_short}
use Rattle.vault_inventory.specs.{Bare.DocumentsAreAlike, Inventories.IsInventory, Inventories.Inventory, Inventory.read_inventory, Inventory.read_known, Laws.DifferInCredentials, Served.Served}
use Rattle.vault_served.specs.ForGood.{marks}
use Rattle.vault_start.specs.Start.{inventory_at}

-- what is read from a start on is an inventory
abbrev pub StartInventoryLaw : Type 0
StartInventoryLaw = (s : ℕ) (bytes : List ℕ) (inventory : Inventory) → inventory_at s bytes ≡ Ok inventory → IsInventory inventory

-- two texts that are the same but for the keys `secret` and `lease_id` and their values differ in credentials alone
abbrev pub StartSecrecyLaw : Type 0
StartSecrecyLaw =
    (s : ℕ) (bytes other : List ℕ) (inventory other_inventory : Inventory) → DocumentsAreAlike bytes other → inventory_at s bytes ≡ Ok inventory → inventory_at s other ≡ Ok other_inventory →
    DifferInCredentials inventory other_inventory

-- a text that leaves nothing open means the same from every start
abbrev pub WholeLaw : Type 0
WholeLaw = (s : ℕ) (bytes : List ℕ) (inventory : Inventory) → read_inventory bytes ≡ Ok inventory → inventory_at s bytes ≡ Ok inventory

-- a need that is `always` is not shortened from s on; and where no other entry is needed after s, no pair of entries is unkeepable
abbrev pub AlwaysKeptLaw : Type 0
AlwaysKeptLaw =
    (s : ℕ) (bytes : List ℕ) (v : Served) (inventory : Inventory) → read_known bytes ≡ Ok v → inventory_at s bytes ≡ Ok inventory →
    ((i : ℕ) → is_always_needed (marks v.notes) i ≡ true → is_short inventory.forest s i ≡ false)
    × (((i : ℕ) → is_always_needed (marks v.notes) i ≡ false → (entry_at v.inventory.forest.entries i).need ≤ s) → AllKeepable inventory.forest s (end_of inventory.forest.entries))
