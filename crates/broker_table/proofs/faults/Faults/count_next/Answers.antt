-- When the next request is counted, its fault is used and those of later ones stay.
use Rattle.broker_table.proofs.Pending.{counted_faults}
use Rattle.broker_table.proofs.faults.Faults.count_next.Goals as goal

pub returns : goal.returns
returns c = counted_faults c.self.inside.given.items c.self.inside.count c.args.self.now c.next_number-self-inside.result c.self.view_is c.next_number-self-inside.ensures
