-- Keepers: a store, and the changes of it that wait to be served.
-- Source: this project's own.
use Rattle.std.specs.Prelude.{◌≡◌, ℕ, true, false, List, Option, Some, None, Ok}
use Rattle.agent_standing.specs.Waiting.{is_change_due}
use Rattle.vault_inventory.specs.Inventories.{Inventory}
use Rattle.vault_served.specs.ForGood.{inventory_for_good}
use Rattle.state_store.specs.declared.store.Store.{Store}
use Rattle.state_keeping.specs.declared.keeper.StateKeeper.{StateKeeper}

abbrev pub store_of : StateKeeper → Store
store_of keeper = keeper.store

-- when the first of the changes came that wait to be served
abbrev pub waiting_in : StateKeeper → Option ℕ
waiting_in keeper = keeper.waiting

-- an inventory is given exactly where one is due: the one that is read of this text
abbrev pub InventoryIsGiven : Option ℕ → ℕ → List ℕ → Option Inventory → Type 0
InventoryIsGiven waiting now text None = is_change_due waiting now ≡ false
InventoryIsGiven waiting now text (Some inventory) = (is_change_due waiting now ≡ true) × (inventory_for_good text ≡ Ok inventory)
