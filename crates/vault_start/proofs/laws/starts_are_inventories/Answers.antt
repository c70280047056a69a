-- What is read from a start on is an inventory, and its credentials alone come from the keys of secrets.
use Rattle.vault_start.proofs.Started.{secrecy_law, start_law}
use Rattle.vault_start.proofs.laws.starts_are_inventories.Goals as goal

pub returns-clause-inventory : goal.returns-clause-inventory
returns-clause-inventory c = start_law

pub returns-clause-secrecy : goal.returns-clause-secrecy
returns-clause-secrecy c = secrecy_law
