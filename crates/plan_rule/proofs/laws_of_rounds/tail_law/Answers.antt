-- After the round of the first moment, the moments that are left are least and latest from that round on.
use Rattle.plan_rule.proofs.{Enough.enough, Tail.tail}
use Rattle.plan_rule.proofs.laws_of_rounds.tail_law.Goals as goal

pub returns : goal.returns
returns c = tail enough
