-- Two orders of the same answers to one round end in equal states.
use Rattle.tick_keeper.proofs.Closing.{order}
use Rattle.tick_keeper.proofs.laws_of_histories.order_law.Goals as goal

pub returns : goal.returns
returns c = order
