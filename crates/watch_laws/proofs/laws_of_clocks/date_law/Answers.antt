-- date_law: the law as it is proved in Dates.
use Rattle.watch_laws.proofs.Dates.{window_so}
use Rattle.watch_laws.proofs.laws_of_clocks.date_law.Goals as goal

pub returns : goal.returns
returns c = window_so
