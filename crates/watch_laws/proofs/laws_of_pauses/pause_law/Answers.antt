-- pause_law: the law as it is proved in Pausing.
use Rattle.watch_laws.proofs.Pausing.{paused_so}
use Rattle.watch_laws.proofs.laws_of_pauses.pause_law.Goals as goal

pub returns : goal.returns
returns c = paused_so
