-- Whatever events come, they leave a state: a forest, with a sound open round or with a plan in force.
use Rattle.tick_keeper.proofs.States.{states}
use Rattle.tick_keeper.proofs.laws_of_steps.state_law.Goals as goal

pub returns : goal.returns
returns c = states
