-- harmless_law: the law as it is proved in Truly.
use Rattle.watch_scout_laws.proofs.Truly.{harmless}
use Rattle.watch_scout_laws.proofs.laws_of_real_ends.harmless_law.Goals as goal

pub returns : goal.returns
returns c = harmless
