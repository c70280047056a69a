-- few_law: the law as it is proved in Beginning.
use Rattle.watch_laws.proofs.Beginning.{few}
use Rattle.watch_laws.proofs.laws_of_beginnings.few_law.Goals as goal

pub returns : goal.returns
returns c = few
