-- kept_law: the law as it is proved in Handing.
use Rattle.watch_scout_laws.proofs.Handing.{keeps}
use Rattle.watch_scout_laws.proofs.laws_of_behind.kept_law.Goals as goal

pub returns : goal.returns
returns c = keeps
