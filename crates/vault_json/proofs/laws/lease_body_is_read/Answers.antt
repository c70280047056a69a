-- The id and the step that the body of a lease's renewal writes are read back.
use Rattle.vault_json.proofs.ReadBack as laws
use Rattle.vault_json.proofs.laws.lease_body_is_read.Goals as goal

pub returns : goal.returns
returns c = laws.lease_body_is_read
