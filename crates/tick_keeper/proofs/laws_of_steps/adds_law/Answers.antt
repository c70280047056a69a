-- What is noted as shortened is shortened just as far as it has to be, and no other need changes by itself.
use Rattle.tick_keeper.proofs.States.{adds}
use Rattle.tick_keeper.proofs.laws_of_steps.adds_law.Goals as goal

pub returns : goal.returns
returns c = adds
