-- look_law: the law as it is proved in Lookups.
use Rattle.watch_scout_laws.proofs.Lookups.{looks_rightly}
use Rattle.watch_scout_laws.proofs.laws_of_looks.look_law.Goals as goal

pub returns : goal.returns
returns c = looks_rightly
