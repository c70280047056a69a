-- asks_law: the law as it is proved in Rounds.
use Rattle.watch_laws.proofs.Rounds.{names_asks}
use Rattle.watch_laws.proofs.laws_of_rounds.asks_law.Goals as goal

pub returns : goal.returns
returns c = names_asks
