-- soon_law: the law as it is proved in UnderWay.
use Rattle.watch_laws.proofs.UnderWay.{wanted_soon}
use Rattle.watch_laws.proofs.laws_of_starts.soon_law.Goals as goal

pub returns : goal.returns
returns c = wanted_soon
