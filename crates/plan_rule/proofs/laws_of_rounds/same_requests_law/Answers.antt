-- Moments with their Asks are the same plan from every start that comes after none of them.
use Rattle.plan_rule.proofs.LaterStart.{same_requests}
use Rattle.plan_rule.proofs.laws_of_rounds.same_requests_law.Goals as goal

pub returns : goal.returns
returns c = same_requests
