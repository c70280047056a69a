-- top_law: the law as it is proved in GrantedFrom.
use Rattle.watch_laws.proofs.GrantedFrom.{top_so}
use Rattle.watch_laws.proofs.laws_of_tops.top_law.Goals as goal

pub returns : goal.returns
returns c = top_so
