-- called_law: the law as it is proved in Needing.
use Rattle.watch_laws.proofs.Needing.{called_so}
use Rattle.watch_laws.proofs.laws_of_needs.called_law.Goals as goal

pub returns : goal.returns
returns c = called_so
