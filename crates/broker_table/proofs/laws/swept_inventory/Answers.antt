-- The rows of an inventory that are left after a sweep are those of the entries then alive.
use Rattle.broker_table.proofs.Sweeping as law
use Rattle.broker_table.proofs.laws.swept_inventory.Goals as goal

pub returns : goal.returns
returns c = law.swept_inventory
