-- No plan that keeps makes fewer requests than the Asks at its moments.
use Rattle.plan_rule.proofs.FewestRequests.{fewest_requests}
use Rattle.plan_rule.proofs.laws_of_rounds.fewest_requests_law.Goals as goal

pub returns : goal.returns
returns c = fewest_requests
