-- failure_law: the law as it is proved in Failures.
use Rattle.watch_laws.proofs.Failures.{failures_so}
use Rattle.watch_laws.proofs.laws_of_pauses.failure_law.Goals as goal

pub returns : goal.returns
returns c = failures_so
