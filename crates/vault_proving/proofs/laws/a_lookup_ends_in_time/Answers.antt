-- The law, as it is proved of the definitions.
use Rattle.vault_proving.proofs.InTime.{ends}
use Rattle.vault_proving.proofs.laws.a_lookup_ends_in_time.Goals as goal

pub returns : goal.returns
returns c = ends
