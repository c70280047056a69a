use Rattle.base_journal.proofs.Readings.{stands_once, stands_at_rest}
use Rattle.base_journal.proofs.laws.records_are_read_back.Goals as goal

pub returns-clause-one : goal.returns-clause-one
returns-clause-one c = stands_once

pub returns-clause-back : goal.returns-clause-back
returns-clause-back c = stands_at_rest
