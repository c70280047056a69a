-- Start: the inventory of a text from a start on, where a need that is `always` is as long as its entry can be kept from then on.
-- Source: this project's own.
use Rattle.std.specs.Prelude.{ℕ, Bool, List, Result, Ok}
use Rattle.tick_keeper.specs.Always.{forest_from}
use Rattle.vault_inventory.specs.{declared.fault.InvFault.InvFault, Inventories.Inventory, Inventory.read_known}
use Rattle.vault_inventory.specs.Answers.{◌>>=◌}
use Rattle.vault_served.specs.ForGood.{marks}

-- an inventory from s on
unfoldable pub from_start : Inventory → List Bool → ℕ → Inventory
from_start v always s = record v { forest = forest_from v.forest always s }

-- the inventory of a text from s on; each of its tables writes its end
unfoldable pub inventory_at : ℕ → List ℕ → Result Inventory InvFault
inventory_at s bytes = read_known bytes >>= λ v. Ok (from_start v.inventory (marks v.notes) s)
