-- A run so far has its rounds at the plan's moments and tells the rule's ends, while each needed row is listed.
use Rattle.tick_runs.proofs.Whole as whole
use Rattle.tick_runs.proofs.laws.so_far_law.Goals as goal

pub returns : goal.returns
returns c = whole.so_far
