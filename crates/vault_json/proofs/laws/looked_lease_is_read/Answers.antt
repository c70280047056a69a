-- What the reply to a lease's lookup writes is read back, since its dates are.
use Rattle.vault_json.proofs.ReadBack as laws
use Rattle.vault_json.proofs.laws.looked_lease_is_read.Goals as goal

pub returns : goal.returns
returns c = laws.looked_lease_is_read c.dates_are_read_back.ensures.read_back
