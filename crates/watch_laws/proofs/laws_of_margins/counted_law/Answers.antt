-- counted_law: the law as it is proved in GrantedFrom.
use Rattle.watch_laws.proofs.GrantedFrom.{counted_so}
use Rattle.watch_laws.proofs.laws_of_margins.counted_law.Goals as goal

pub returns : goal.returns
returns c = counted_so
