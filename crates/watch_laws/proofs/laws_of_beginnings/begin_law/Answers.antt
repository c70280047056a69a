-- begin_law: the law as it is proved in Begins.
use Rattle.watch_laws.proofs.Begins.{begins_so}
use Rattle.watch_laws.proofs.laws_of_beginnings.begin_law.Goals as goal

pub returns : goal.returns
returns c = begins_so
