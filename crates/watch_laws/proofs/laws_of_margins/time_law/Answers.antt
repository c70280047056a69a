-- time_law: the law as it is proved in Timing.
use Rattle.watch_laws.proofs.Timing.{timed_so}
use Rattle.watch_laws.proofs.laws_of_margins.time_law.Goals as goal

pub returns : goal.returns
returns c = timed_so
