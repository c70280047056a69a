-- A forest of which no pair is unkeepable is in sight with what its entries carry.
use Rattle.plan_schedule.proofs.Bridge.{in_sight}
use Rattle.plan_schedule.proofs.outlook.Outlook.new.Goals as goal

pub invariant_of-result : goal.invariant_of-result
invariant_of-result c =
    in_sight (record { forest = c.args.forest.now; loads = c.args.carried.now }) c.args._start c.len-entries.ensures.sound c.requires.carried c.requires.keepable
