-- A plan that keeps and each of whose wake-ups is forced is least and latest.
use Rattle.plan_rule.proofs.Keeping.{forced_is_least}
use Rattle.plan_rule.proofs.laws.forced_law.Goals as goal

pub returns : goal.returns
returns c = forced_is_least
