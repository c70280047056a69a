-- An entry is kept with the Asks exactly where each one over it, asked by itself, lasts until its need.
use Rattle.plan_check.proofs.Keeping.{kept_law}
use Rattle.plan_check.proofs.laws.kept_law.Goals as goal

pub returns : goal.returns
returns c = kept_law
