-- change_law: the law as it is proved in Always.
use Rattle.watch_laws.proofs.Always.{change_so}
use Rattle.watch_laws.proofs.laws_of_changes.change_law.Goals as goal

pub returns : goal.returns
returns c = change_so
