-- The law, as it is proved of the definitions.
use Rattle.vault_proving.proofs.Spoken.{lost, other_status, told}
use Rattle.vault_proving.proofs.laws.a_verdict_is_the_brokers.Goals as goal

pub returns-clause-other : goal.returns-clause-other
returns-clause-other c = other_status

pub returns-clause-told : goal.returns-clause-told
returns-clause-told c = told

pub returns-clause-lost : goal.returns-clause-lost
returns-clause-lost c = lost
