-- grant_law: the law as it is proved in Outliving.
use Rattle.watch_laws.proofs.Outliving.{outlives_again}
use Rattle.watch_laws.proofs.laws_of_outages.grant_law.Goals as goal

pub returns : goal.returns
returns c = outlives_again
