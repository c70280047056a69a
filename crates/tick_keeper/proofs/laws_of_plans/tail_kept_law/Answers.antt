-- After a round that the rule answered, planning anew gives the rest of the plan and shortens nothing.
use Rattle.tick_keeper.proofs.Standing.{tail_kept}
use Rattle.tick_keeper.proofs.laws_of_plans.tail_kept_law.Goals as goal

pub returns : goal.returns
returns c = tail_kept
