-- A need that is always is never unkeepable.
use Rattle.tick_keeper.proofs.AlwaysNeeded.{always_law, never_law}
use Rattle.tick_keeper.proofs.always.always_law.Goals as goal

pub returns-clause-always : goal.returns-clause-always
returns-clause-always c = always_law

pub returns-clause-never : goal.returns-clause-never
returns-clause-never c = never_law
