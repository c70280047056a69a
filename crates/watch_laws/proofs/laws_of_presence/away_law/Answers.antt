-- away_law: the law as it is proved in Away.
use Rattle.watch_laws.proofs.Away.{away_by}
use Rattle.watch_laws.proofs.laws_of_presence.away_law.Goals as goal

pub returns : goal.returns
returns c = away_by
