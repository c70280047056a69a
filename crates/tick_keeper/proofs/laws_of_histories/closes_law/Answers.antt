-- The answers of those that are waited for are taken, and close the round when nobody is left.
use Rattle.tick_keeper.proofs.Closing.{closes}
use Rattle.tick_keeper.proofs.laws_of_histories.closes_law.Goals as goal

pub returns : goal.returns
returns c = closes
