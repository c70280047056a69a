-- hope_law: the law as it is proved in Rounds.
use Rattle.watch_laws.proofs.Rounds.{hope_hides}
use Rattle.watch_laws.proofs.laws_of_rounds.hope_law.Goals as goal

pub returns : goal.returns
returns c = hope_hides
