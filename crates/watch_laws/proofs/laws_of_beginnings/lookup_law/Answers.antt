-- lookup_law: the law as it is proved in LookedOnce.
use Rattle.watch_laws.proofs.LookedOnce.{looked_once}
use Rattle.watch_laws.proofs.laws_of_beginnings.lookup_law.Goals as goal

pub returns : goal.returns
returns c = looked_once
