-- Whatever events come, the plan is in force whenever no round is open.
use Rattle.tick_keeper.proofs.Turns.{in_force}
use Rattle.tick_keeper.proofs.laws_of_histories.in_force_law.Goals as goal

pub returns : goal.returns
returns c = in_force
