-- back_law: the law as it is proved in Backs.
use Rattle.watch_laws.proofs.Backs.{backs_so}
use Rattle.watch_laws.proofs.laws_of_presence.back_law.Goals as goal

pub returns : goal.returns
returns c = backs_so
