-- once_law: the law as it is proved in Lookups.
use Rattle.watch_scout_laws.proofs.Lookups.{once}
use Rattle.watch_scout_laws.proofs.laws_of_looks.once_law.Goals as goal

pub returns : goal.returns
returns c = once
