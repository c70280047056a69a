-- leave_law: the law as it is proved in Leaving.
use Rattle.watch_scout_laws.proofs.Leaving.{leaves}
use Rattle.watch_scout_laws.proofs.laws_of_behind.leave_law.Goals as goal

pub returns : goal.returns
returns c = leaves
