-- told_law: the laws as they are proved in Told.
use Rattle.watch_laws.proofs.Told.{done_so, told_so}
use Rattle.watch_laws.proofs.laws_of_told.told_law.Goals as goal

pub returns-clause-lookups : goal.returns-clause-lookups
returns-clause-lookups c = told_so

pub returns-clause-grants : goal.returns-clause-grants
returns-clause-grants c = done_so
