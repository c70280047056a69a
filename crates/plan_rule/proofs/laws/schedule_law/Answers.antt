-- The moments of a schedule rise, are forced, are kept with their Asks, and are least and latest.
use Rattle.plan_rule.proofs.Schedule.{schedule_is_best}
use Rattle.plan_rule.proofs.laws.schedule_law.Goals as goal

pub returns : goal.returns
returns c = schedule_is_best
