-- round_law: the law as it is proved in Rounds.
use Rattle.watch_laws.proofs.Rounds.{opened_rightly}
use Rattle.watch_laws.proofs.laws_of_rounds.round_law.Goals as goal

pub returns : goal.returns
returns c = opened_rightly
