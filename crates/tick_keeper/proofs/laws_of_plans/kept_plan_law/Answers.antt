-- A tick that is not late changes the last moment alone.
use Rattle.tick_keeper.proofs.Standing.{kept_plan}
use Rattle.tick_keeper.proofs.laws_of_plans.kept_plan_law.Goals as goal

pub returns : goal.returns
returns c = kept_plan
