-- press_law: the law as it is proved in Presses.
use Rattle.watch_laws.proofs.Presses.{presses_so}
use Rattle.watch_laws.proofs.laws_of_time.press_law.Goals as goal

pub returns : goal.returns
returns c = presses_so
