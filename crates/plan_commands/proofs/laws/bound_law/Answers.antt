-- The entry that `reach` names is the lowest over the given one that has the least reach.
use Rattle.plan_commands.proofs.Bounding as bounding
use Rattle.plan_commands.proofs.laws.bound_law.Goals as goal

pub returns : goal.returns
returns c = bounding.bound_law
