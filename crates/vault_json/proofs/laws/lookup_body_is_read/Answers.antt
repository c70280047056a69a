-- The id that the body of a lease's lookup writes is read back.
use Rattle.vault_json.proofs.ReadBack as laws
use Rattle.vault_json.proofs.laws.lookup_body_is_read.Goals as goal

pub returns : goal.returns
returns c = laws.lookup_body_is_read
