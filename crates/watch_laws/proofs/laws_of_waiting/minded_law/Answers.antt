-- minded_law: the law as it is proved in Minding.
use Rattle.watch_laws.proofs.Minding.{all_minded}
use Rattle.watch_laws.proofs.laws_of_waiting.minded_law.Goals as goal

pub returns : goal.returns
returns c = all_minded
