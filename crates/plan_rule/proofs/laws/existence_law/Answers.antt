-- Where no pair of entries is unkeepable, there is a schedule.
use Rattle.plan_rule.proofs.Existence.{there_is_one}
use Rattle.plan_rule.proofs.laws.existence_law.Goals as goal

pub returns : goal.returns
returns c = there_is_one
