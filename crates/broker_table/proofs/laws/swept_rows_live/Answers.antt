-- Each row that a sweep has kept is alive at its moment, with all that are over it.
use Rattle.broker_table.proofs.Swept as swept
use Rattle.broker_table.proofs.laws.swept_rows_live.Goals as goal

pub returns : goal.returns
returns c = swept.swept_rows_live
