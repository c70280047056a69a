-- The step that the body of a token's renewal writes is read back.
use Rattle.vault_json.proofs.ReadBack as laws
use Rattle.vault_json.proofs.laws.renew_body_is_read.Goals as goal

pub returns : goal.returns
returns c = laws.renew_body_is_read
