-- behind_law: the law as it is proved in Truly.
use Rattle.watch_scout_laws.proofs.Truly.{behind}
use Rattle.watch_scout_laws.proofs.laws_of_real_ends.behind_law.Goals as goal

pub returns : goal.returns
returns c = behind
