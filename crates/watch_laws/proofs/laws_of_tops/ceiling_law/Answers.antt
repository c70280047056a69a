-- ceiling_law: the law as it is proved in Ceiling.
use Rattle.watch_laws.proofs.Ceiling.{ceiling_reached}
use Rattle.watch_laws.proofs.laws_of_tops.ceiling_law.Goals as goal

pub returns : goal.returns
returns c = ceiling_reached
