-- Lack of memory aside, an event gives one result and leaves one state.
use Rattle.tick_keeper.proofs.Once.{once}
use Rattle.tick_keeper.proofs.laws_of_steps.once_law.Goals as goal

pub returns : goal.returns
returns c = once
