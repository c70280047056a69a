-- spaced_law: the law as it is proved in Apart.
use Rattle.watch_laws.proofs.Apart.{spaced}
use Rattle.watch_laws.proofs.laws_of_load.spaced_law.Goals as goal

pub returns : goal.returns
returns c = spaced
