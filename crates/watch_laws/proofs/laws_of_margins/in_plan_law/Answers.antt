-- in_plan_law: the law as it is proved in Timing.
use Rattle.watch_laws.proofs.Timing.{planned_so}
use Rattle.watch_laws.proofs.laws_of_margins.in_plan_law.Goals as goal

pub returns : goal.returns
returns c = planned_so
