-- held_law: the law as it is proved in Holding.
use Rattle.watch_laws.proofs.Holding.{held_back_long}
use Rattle.watch_laws.proofs.laws_of_absence.held_law.Goals as goal

pub returns : goal.returns
returns c = held_back_long
