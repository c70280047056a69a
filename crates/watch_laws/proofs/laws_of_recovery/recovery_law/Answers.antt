-- recovery_law: the law as it is proved in Recovering.
use Rattle.watch_laws.proofs.Recovering.{recovers}
use Rattle.watch_laws.proofs.laws_of_recovery.recovery_law.Goals as goal

pub returns : goal.returns
returns c = recovers
