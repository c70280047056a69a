-- inventories_are_written: the law as it is proved in Written.
use Rattle.vault_inventory.proofs.Written.{written_law}
use Rattle.vault_inventory.proofs.laws.inventories_are_written.Goals as goal

pub returns : goal.returns
returns c = written_law
