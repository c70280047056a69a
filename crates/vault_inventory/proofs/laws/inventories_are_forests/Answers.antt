-- What is read of a text is a forest, with one credential, one set of terms and one note for each entry.
use Rattle.vault_inventory.proofs.Inventoried.{inventory_law, served_law}
use Rattle.vault_inventory.proofs.laws.inventories_are_forests.Goals as goal

pub returns-clause-served : goal.returns-clause-served
returns-clause-served c = served_law

pub returns-clause-inventory : goal.returns-clause-inventory
returns-clause-inventory c = inventory_law
