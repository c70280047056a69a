-- A run may be cut into two anywhere.
use Rattle.tick_runs.proofs.Loops as loops
use Rattle.tick_runs.proofs.laws.split_law.Goals as goal

pub returns : goal.returns
returns c = loops.split
