-- partial_law: the law as it is proved in Held.
use Rattle.watch_laws.proofs.Held.{held_up}
use Rattle.watch_laws.proofs.laws_of_partial.partial_law.Goals as goal

pub returns : goal.returns
returns c = held_up
