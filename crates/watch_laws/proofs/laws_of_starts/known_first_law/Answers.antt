-- known_first_law: the law as it is proved in Foremost.
use Rattle.watch_laws.proofs.Foremost.{known_first}
use Rattle.watch_laws.proofs.laws_of_starts.known_first_law.Goals as goal

pub returns : goal.returns
returns c = known_first
