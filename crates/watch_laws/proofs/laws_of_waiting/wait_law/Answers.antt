-- wait_law: the law as it is proved in Waits.
use Rattle.watch_laws.proofs.Waits.{waits_so}
use Rattle.watch_laws.proofs.laws_of_waiting.wait_law.Goals as goal

pub returns : goal.returns
returns c = waits_so
