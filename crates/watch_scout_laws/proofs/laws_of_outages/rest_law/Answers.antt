-- rest_law: the law as it is proved in Resting.
use Rattle.watch_scout_laws.proofs.Resting.{rests}
use Rattle.watch_scout_laws.proofs.laws_of_outages.rest_law.Goals as goal

pub returns : goal.returns
returns c = rests
