-- The rounds of a run are the least and latest plan for the needs that its opening leaves in force.
use Rattle.tick_runs.proofs.InForce as in_force
use Rattle.tick_runs.proofs.laws.least_law.Goals as goal

pub returns : goal.returns
returns c = in_force.least
