-- ahead_law: the law as it is proved in Ahead.
use Rattle.watch_laws.proofs.Ahead.{grants_far}
use Rattle.watch_laws.proofs.laws_of_time.ahead_law.Goals as goal

pub returns : goal.returns
returns c = grants_far
