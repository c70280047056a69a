-- never_past_law: the law as it is proved in Ends.
use Rattle.watch_laws.proofs.Ends.{never_past}
use Rattle.watch_laws.proofs.laws_of_ends.never_past_law.Goals as goal

pub returns : goal.returns
returns c = never_past
