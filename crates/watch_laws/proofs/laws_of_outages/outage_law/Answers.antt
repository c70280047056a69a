-- outage_law: the law as it is proved in Outliving.
use Rattle.watch_laws.proofs.Outliving.{outlives}
use Rattle.watch_laws.proofs.laws_of_outages.outage_law.Goals as goal

pub returns : goal.returns
returns c = outlives
