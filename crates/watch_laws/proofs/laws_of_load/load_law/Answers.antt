-- load_law: the law as it is proved in Load.
use Rattle.watch_laws.proofs.Load.{load}
use Rattle.watch_laws.proofs.laws_of_load.load_law.Goals as goal

pub returns : goal.returns
returns c = load
