-- A text that leaves nothing open means the same from every start.
use Rattle.vault_start.proofs.Started.{whole_law}
use Rattle.vault_start.proofs.laws.whole_inventories_start_as_they_are.Goals as goal

pub returns : goal.returns
returns c = whole_law
