-- Moments that are least and latest stay so from each later start that comes after none of them.
use Rattle.plan_rule.proofs.LaterStart.{later_start}
use Rattle.plan_rule.proofs.laws_of_rounds.later_start_law.Goals as goal

pub returns : goal.returns
returns c = later_start
