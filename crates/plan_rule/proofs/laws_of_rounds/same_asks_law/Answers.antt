-- The Asks at a moment are the same from every start that does not come after it.
use Rattle.plan_rule.proofs.LaterStart.{same_asks}
use Rattle.plan_rule.proofs.laws_of_rounds.same_asks_law.Goals as goal

pub returns : goal.returns
returns c = same_asks
