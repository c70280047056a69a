-- No event changes an entry but for its end, its need and whether it is renewable.
use Rattle.tick_keeper.proofs.Shaped.{shape}
use Rattle.tick_keeper.proofs.laws_of_steps.shape_law.Goals as goal

pub returns : goal.returns
returns c = shape
