-- The fault that reading tells is the first.
use Rattle.vault_inventory.proofs.Faulty.{first_fault_law}
use Rattle.vault_inventory.proofs.laws.faults_are_first.Goals as goal

pub returns : goal.returns
returns c = first_fault_law
