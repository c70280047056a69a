-- owed_law: the law as it is proved in Always.
use Rattle.watch_laws.proofs.Always.{all_owed}
use Rattle.watch_laws.proofs.laws_of_waiting.owed_law.Goals as goal

pub returns : goal.returns
returns c = all_owed
