-- early_law: the law as it is proved in Reasons.
use Rattle.watch_laws.proofs.Reasons.{early}
use Rattle.watch_laws.proofs.laws_of_time.early_law.Goals as goal

pub returns : goal.returns
returns c = early
