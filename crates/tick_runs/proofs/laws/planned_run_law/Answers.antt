-- For a plan that keeps, the run's text ends in the number of its wake-ups and in that of its requests.
use Rattle.tick_runs.proofs.Whole as whole
use Rattle.tick_runs.proofs.laws.planned_run_law.Goals as goal

pub returns : goal.returns
returns c = whole.planned_run
