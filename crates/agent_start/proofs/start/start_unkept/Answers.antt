-- That the folder cannot be used is said first.
use Rattle.agent_start.proofs.Begun.{alone_unused}
use Rattle.agent_start.proofs.start.start_unkept.Goals as goal

pub returns-clause-start : goal.returns-clause-start
returns-clause-start g c =
    alone_unused c.args.demands c.in_ok-inventories.inventories c.read_with_held.new.said c.start_of.result c.start_of.ensures _ _ _ c.args.first c.in-Ok.said.items c.in_ok-inventories.ensures.alone c.requires c.in-Ok.ensures
    c.in_ok-inventories.ensures.served
