-- What is said of each call is said of all.
use Rattle.base_clock.proofs.Joined.{joined_law, none_law}
use Rattle.base_clock.proofs.laws.calls_are_joined.Goals as goal

pub returns-clause-joined : goal.returns-clause-joined
returns-clause-joined c = joined_law

pub returns-clause-none : goal.returns-clause-none
returns-clause-none c = none_law
