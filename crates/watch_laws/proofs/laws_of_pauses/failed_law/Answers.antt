-- failed_law: the laws as they are proved in Failing and Always.
use Rattle.watch_laws.proofs.{Always.stays_lost, Failing.failed_so}
use Rattle.watch_laws.proofs.laws_of_pauses.failed_law.Goals as goal

pub returns-clause-failed : goal.returns-clause-failed
returns-clause-failed c = failed_so

pub returns-clause-stays_lost : goal.returns-clause-stays_lost
returns-clause-stays_lost c = stays_lost
