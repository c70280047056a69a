-- next_moment_law: the law as it is proved in Foreseen.
use Rattle.watch_laws.proofs.Foreseen.{next_moments}
use Rattle.watch_laws.proofs.laws_of_calm.next_moment_law.Goals as goal

pub returns : goal.returns
returns c = next_moments
