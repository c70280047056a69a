-- A round has someone to ask.
use Rattle.tick_keeper.proofs.Standing.{someone}
use Rattle.tick_keeper.proofs.laws_of_plans.someone_law.Goals as goal

pub returns : goal.returns
returns c = someone
