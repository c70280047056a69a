-- A need that is `always` is kept.
use Rattle.vault_start.proofs.Started.{kept_law}
use Rattle.vault_start.proofs.laws.needs_that_are_always_are_kept.Goals as goal

pub returns : goal.returns
returns c = kept_law
