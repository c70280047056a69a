-- What the next call may take, however an exchange ends.
use Rattle.vault_exchange.proofs.asking.ask.Goals as goal

pub returns-clause-limit : goal.returns-clause-limit
returns-clause-limit g c = c.in-Err-ConnectFailed.ensures.limit
