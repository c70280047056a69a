-- start_law: the laws as they are proved in Starting.
use Rattle.watch_laws.proofs.Starting.{nobody_out, starts_soon}
use Rattle.watch_laws.proofs.laws_of_starts.start_law.Goals as goal

pub returns-clause-rounds : goal.returns-clause-rounds
returns-clause-rounds c = starts_soon

pub returns-clause-nobody : goal.returns-clause-nobody
returns-clause-nobody c = nobody_out
