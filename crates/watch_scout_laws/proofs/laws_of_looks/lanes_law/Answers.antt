-- lanes_law: the law as it is proved in Lanes.
use Rattle.watch_scout_laws.proofs.Lanes.{lanes_hold}
use Rattle.watch_scout_laws.proofs.laws_of_looks.lanes_law.Goals as goal

pub returns : goal.returns
returns c = lanes_hold
