-- written_law: the law as it is proved in Told.
use Rattle.watch_laws.proofs.Told.{written_so}
use Rattle.watch_laws.proofs.laws_of_told.written_law.Goals as goal

pub returns : goal.returns
returns c = written_so
