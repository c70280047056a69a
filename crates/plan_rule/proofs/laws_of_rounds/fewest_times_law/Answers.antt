-- No plan that keeps asks an entry less often than the Asks at its moments do.
use Rattle.plan_rule.proofs.FewestTimes.{fewest_times}
use Rattle.plan_rule.proofs.laws_of_rounds.fewest_times_law.Goals as goal

pub returns : goal.returns
returns c = fewest_times
