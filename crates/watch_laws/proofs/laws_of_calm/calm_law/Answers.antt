-- calm_law: the law as it is proved in CalmDay.
use Rattle.watch_laws.proofs.CalmDay.{calm_days}
use Rattle.watch_laws.proofs.laws_of_calm.calm_law.Goals as goal

pub returns : goal.returns
returns c = calm_days
