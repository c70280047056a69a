-- A whole run has exactly the rounds of the plan, and as many requests as its Asks.
use Rattle.tick_runs.proofs.Whole as whole
use Rattle.tick_runs.proofs.laws.rehearsal_law.Goals as goal

pub returns : goal.returns
returns c = whole.rehearsal
