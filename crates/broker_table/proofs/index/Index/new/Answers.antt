-- Two empty maps are the index of no slots.
use Rattle.broker_table.proofs.Indexed.{index_of_none}
use Rattle.broker_table.proofs.index.Index.new.Goals as goal

pub returns : goal.returns
returns c = index_of_none (record { tokens = c.new.result; leases = c.new-2.result }) c.new.ensures.empty c.new-2.ensures.empty
