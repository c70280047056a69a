-- round_of_plan_law: the law as it is proved in OfPlan.
use Rattle.watch_laws.proofs.OfPlan.{rounds_of_plan}
use Rattle.watch_laws.proofs.laws_of_calm.round_of_plan_law.Goals as goal

pub returns : goal.returns
returns c = rounds_of_plan
