-- A tick at the first moment of the plan in force asks.
use Rattle.tick_keeper.proofs.Once.{next_asks}
use Rattle.tick_keeper.proofs.laws_of_steps.next_asks_law.Goals as goal

pub returns : goal.returns
returns c = next_asks
