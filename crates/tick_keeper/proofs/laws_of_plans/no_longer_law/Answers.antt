-- At a tick and after a round, planning anew gives no more wake-ups than the plan in force has.
use Rattle.tick_keeper.proofs.NoLonger.{no_longer}
use Rattle.tick_keeper.proofs.laws_of_plans.no_longer_law.Goals as goal

pub returns : goal.returns
returns c = no_longer
