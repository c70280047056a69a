-- Until the first moment of the plan, planning anew gives the same plan and shortens nothing.
use Rattle.tick_keeper.proofs.Standing.{tick}
use Rattle.tick_keeper.proofs.laws_of_plans.tick_law.Goals as goal

pub returns : goal.returns
returns c = tick
