-- A parent that the forest does not lack has a name to be read.
use Rattle.std.proofs.Common.{◌<◌, length, subst, sym}
use Rattle.plan_forest.specs.Forest.{Forest}
use Rattle.plan_forest.proofs.Placed.{parent_below}
use Rattle.broker_table.proofs.slot.parent_of.Goals as goal

pub get-requires : goal.get-requires
get-requires c =
    subst (λ (g : Forest). c.in-Some.index < length g.entries) (sym c.forest.ensures.value)
    (parent_below c.args.inventory.now.forest.entries c.args.parent c.requires c.in-Some.index c.in-Some.is)
