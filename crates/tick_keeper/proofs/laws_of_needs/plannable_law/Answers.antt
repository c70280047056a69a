-- After shortening no pair is unkeepable, and there is a least and latest list of moments.
use Rattle.tick_keeper.proofs.Kept.{plannable}
use Rattle.tick_keeper.proofs.laws_of_needs.plannable_law.Goals as goal

pub returns : goal.returns
returns c = plannable
