-- Where some pair of entries is unkeepable, no plan keeps.
use Rattle.plan_rule.proofs.Keeping.{unkeepable}
use Rattle.plan_rule.proofs.laws.unkeepable_law.Goals as goal

pub returns : goal.returns
returns c = unkeepable
