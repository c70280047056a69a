-- last_try_law: the law as it is proved in LastTries.
use Rattle.watch_laws.proofs.LastTries.{last_tries}
use Rattle.watch_laws.proofs.laws_of_tops.last_try_law.Goals as goal

pub returns : goal.returns
returns c = last_tries
