-- Wanting: memory may be wanting only where an inventory is due. For `due_with_marks`.
use Rattle.std.proofs.Common.{ℕ, Option, Some, Result, Ok, Err, inl, inr}
use Rattle.std.specs.declared.alloc.AllocError.{AllocError}
use Rattle.base_clock.specs.declared.reading.Reading.{Reading}
use Rattle.vault_inventory.specs.Inventories.{Inventory}
use Rattle.agent_house.specs.Commands.{InventoryIsDue}

module _ {K : Type 0} (gives : ℕ → Result (Option Inventory) AllocError → K → Type 0) (now : Reading) (e : AllocError) (k : K) where
  -- for it
  pub wanting_it : gives now.elapsed (Err e) k → InventoryIsDue gives now (Err e) (Some k)
  wanting_it h = inl h

  -- or for marks of its entries
  pub wanting_marks : (inventory : Inventory) → gives now.elapsed (Ok (Some inventory)) k → InventoryIsDue gives now (Err e) (Some k)
  wanting_marks inventory h = inr (inventory, h)
