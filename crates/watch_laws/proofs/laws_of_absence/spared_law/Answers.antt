-- spared_law: the law as it is proved in Sparing.
use Rattle.watch_laws.proofs.Sparing.{spared}
use Rattle.watch_laws.proofs.laws_of_absence.spared_law.Goals as goal

pub returns : goal.returns
returns c = spared
