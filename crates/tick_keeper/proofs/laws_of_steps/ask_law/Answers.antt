-- Only a tick at the first moment of the plan asks entries; these are the Asks, and at least one.
use Rattle.tick_keeper.proofs.States.{asked_at}
use Rattle.tick_keeper.proofs.laws_of_steps.ask_law.Goals as goal

pub returns : goal.returns
returns c = asked_at
