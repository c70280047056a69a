-- doubled_law: the laws as they are proved in Pausing and Doubling.
use Rattle.watch_laws.proofs.{Doubling.others_go_on, Doubling.pauses_double, Pausing.longest_so}
use Rattle.watch_laws.proofs.laws_of_pauses.doubled_law.Goals as goal

pub returns-clause-longest : goal.returns-clause-longest
returns-clause-longest c = longest_so

pub returns-clause-doubled : goal.returns-clause-doubled
returns-clause-doubled c = pauses_double

pub returns-clause-unpaused : goal.returns-clause-unpaused
returns-clause-unpaused c = others_go_on
