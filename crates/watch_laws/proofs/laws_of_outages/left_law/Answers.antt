-- left_law: the law as it is proved in Outliving.
use Rattle.watch_laws.proofs.Outliving.{left}
use Rattle.watch_laws.proofs.laws_of_outages.left_law.Goals as goal

pub returns : goal.returns
returns c = left
