-- A record of settling counts for its own file alone, and there for all before it.
use Rattle.state_changes.proofs.Settling.{settled, unsettled}
use Rattle.state_changes.proofs.laws.settling_changes_nothing.Goals as goal

pub returns-clause-settled : goal.returns-clause-settled
returns-clause-settled c = settled

pub returns-clause-unsettled : goal.returns-clause-unsettled
returns-clause-unsettled c = unsettled
