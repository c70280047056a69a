-- once_law: the law as it is proved in Once.
use Rattle.watch_laws.proofs.Once.{stands_once}
use Rattle.watch_laws.proofs.laws_of_partial.once_law.Goals as goal

pub returns : goal.returns
returns c = stands_once
