-- hold_law: the law as it is proved in Holds.
use Rattle.watch_laws.proofs.Holds.{held_so}
use Rattle.watch_laws.proofs.laws_of_absence.hold_law.Goals as goal

pub returns : goal.returns
returns c = held_so
