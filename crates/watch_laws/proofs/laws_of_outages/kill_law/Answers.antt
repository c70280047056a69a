-- kill_law: the law as it is proved in Handed.
use Rattle.watch_laws.proofs.Handed.{killed}
use Rattle.watch_laws.proofs.laws_of_outages.kill_law.Goals as goal

pub returns : goal.returns
returns c = killed
