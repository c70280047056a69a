-- A parent that the forest does not lack is one of its entries, so that its depth may be asked.
use Rattle.plan_forest.proofs.Placed.{parent_below}
use Rattle.plan_forest.proofs.forest.Forest.depth_under.Goals as goal

pub depth-requires : goal.depth-requires
depth-requires c = parent_below c.args.self.now.entries c.args.parent c.requires c.in-Some.index c.in-Some.is
