-- topped_law: the law as it is proved in Topped.
use Rattle.watch_laws.proofs.Topped.{topped}
use Rattle.watch_laws.proofs.laws_of_tops.topped_law.Goals as goal

pub returns : goal.returns
returns c = topped
