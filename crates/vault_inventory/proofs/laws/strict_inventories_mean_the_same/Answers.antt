-- A text of the strict language is read as the same.
use Rattle.vault_inventory.proofs.Strictly.{strict_law}
use Rattle.vault_inventory.proofs.laws.strict_inventories_mean_the_same.Goals as goal

pub returns : goal.returns
returns c = strict_law
