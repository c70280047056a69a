-- A certificate that some text writes over a forest can be judged over it.
use Rattle.plan_check.proofs.Written.{written_fits}
use Rattle.plan_check.proofs.laws.written_law.Goals as goal

pub returns : goal.returns
returns c = written_fits
