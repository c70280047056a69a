-- A parent that the forest does not lack may be read.
use Rattle.plan_forest.proofs.Placed.{parent_below}
use Rattle.plan_forest.proofs.forest.Forest.is_under_lease.Goals as goal

pub get-requires : goal.get-requires
get-requires c = parent_below c.args.self.now.entries c.args.parent c.requires c.in-Some.index c.in-Some.is
