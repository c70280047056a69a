-- handed_law: the law as it is proved in Handing.
use Rattle.watch_scout_laws.proofs.Handing.{hands}
use Rattle.watch_scout_laws.proofs.laws_of_behind.handed_law.Goals as goal

pub returns : goal.returns
returns c = hands
