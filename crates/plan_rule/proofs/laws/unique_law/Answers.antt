-- At most one list of moments is least and latest.
use Rattle.plan_rule.proofs.Keeping.{one_least}
use Rattle.plan_rule.proofs.laws.unique_law.Goals as goal

pub returns : goal.returns
returns c = one_least
