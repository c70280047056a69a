-- The need of an entry of a forest is a moment.
use Rattle.watch_machine.proofs.wanted.need_seen.Goals as goal
use Rattle.plan_forest.proofs.Placed.{read_range}

pub need_here-need-requires-clause-need : goal.need_here-need-requires-clause-need
need_here-need-requires-clause-need c = (read_range c.args.forest.now c.get.ensures.sound c.args.index c.get.result.now c.requires.within c.get.ensures.value).need
