-- retry_law: the law as it is proved in Always.
use Rattle.watch_laws.proofs.Always.{retried}
use Rattle.watch_laws.proofs.laws_of_waiting.retry_law.Goals as goal

pub returns : goal.returns
returns c = retried
