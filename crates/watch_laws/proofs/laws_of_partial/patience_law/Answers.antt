-- patience_law: the laws as they are proved in Patience.
use Rattle.watch_laws.proofs.Patience.{alone_so, patience_kept}
use Rattle.watch_laws.proofs.laws_of_partial.patience_law.Goals as goal

pub returns-clause-alone : goal.returns-clause-alone
returns-clause-alone c = alone_so

pub returns-clause-patience : goal.returns-clause-patience
returns-clause-patience c = patience_kept
