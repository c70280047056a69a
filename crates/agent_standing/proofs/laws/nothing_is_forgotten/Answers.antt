-- nothing_is_forgotten: the laws as they are proved in Remembered.
use Rattle.agent_standing.proofs.Remembered.{fresh_elsewhere, remembered}
use Rattle.agent_standing.proofs.laws.nothing_is_forgotten.Goals as goal

pub returns-clause-remembered : goal.returns-clause-remembered
returns-clause-remembered c = remembered

pub returns-clause-fresh : goal.returns-clause-fresh
returns-clause-fresh c = fresh_elsewhere
