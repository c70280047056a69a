-- width_law: the law as it is proved in Always.
use Rattle.watch_laws.proofs.Always.{width}
use Rattle.watch_laws.proofs.laws_of_load.width_law.Goals as goal

pub returns : goal.returns
returns c = width
