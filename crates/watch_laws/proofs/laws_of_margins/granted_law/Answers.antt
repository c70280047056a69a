-- granted_law: the law as it is proved in Granting.
use Rattle.watch_laws.proofs.Granting.{granted_so}
use Rattle.watch_laws.proofs.laws_of_margins.granted_law.Goals as goal

pub returns : goal.returns
returns c = granted_so
