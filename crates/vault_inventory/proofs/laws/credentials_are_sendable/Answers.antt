-- Each credential of the inventory of a text can be sent, and what can be sent is UTF-8.
use Rattle.vault_inventory.proofs.{Inventoried.sendable_law, Inventories.text_law}
use Rattle.vault_inventory.proofs.laws.credentials_are_sendable.Goals as goal

pub returns-clause-inventory : goal.returns-clause-inventory
returns-clause-inventory c = sendable_law

pub returns-clause-text : goal.returns-clause-text
returns-clause-text c = text_law
