-- hung_law: the law as it is proved in Passing.
use Rattle.watch_laws.proofs.Passing.{passes_hung}
use Rattle.watch_laws.proofs.laws_of_partial.hung_law.Goals as goal

pub returns : goal.returns
returns c = passes_hung
