-- The need of an entry of a forest is a moment.
use Rattle.std.proofs.Common.{rules}
use Rattle.plan_forest.proofs.Placed.{read_range}
use Rattle.state_changes.proofs.listed.need_of.Goals as goal

pub unwrap-requires : goal.unwrap-requires
unwrap-requires c = let within = (read_range c.args.forest.now c.get.ensures.sound c.args.index _ c.requires c.get.ensures.value).need in search (rules, c.new.ensures.within.1 within)
