-- What is read as a duration is one, and each is read.
use Rattle.vault_inventory.proofs.DurationLaws.{duration_found, duration_only}
use Rattle.vault_inventory.proofs.laws.durations_are_read.Goals as goal

pub returns-clause-found : goal.returns-clause-found
returns-clause-found c = duration_found

pub returns-clause-only : goal.returns-clause-only
returns-clause-only c = duration_only
