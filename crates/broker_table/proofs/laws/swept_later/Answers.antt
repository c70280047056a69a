-- A later sweep leaves what it would have left without the earlier one.
use Rattle.broker_table.proofs.Swept as law
use Rattle.broker_table.proofs.laws.swept_later.Goals as goal

pub returns : goal.returns
returns c = law.swept_later
