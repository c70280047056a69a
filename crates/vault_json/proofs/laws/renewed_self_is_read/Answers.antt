-- What the reply to a token's renewal writes is read back.
use Rattle.vault_json.proofs.ReadBack as laws
use Rattle.vault_json.proofs.laws.renewed_self_is_read.Goals as goal

pub returns : goal.returns
returns c = laws.renewed_self_is_read
