-- The forces of a plan stay forces until its first moment, and after a round that the rule answered.
use Rattle.tick_keeper.proofs.Forces.{still_forced}
use Rattle.tick_keeper.proofs.laws_of_plans.still_forced_law.Goals as goal

pub returns : goal.returns
returns c = still_forced
