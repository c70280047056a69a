-- At its end a run is closed, and its text is whole with the last line.
use Rattle.tick_runs.proofs.Loops as loops
use Rattle.tick_runs.proofs.laws.end_law.Goals as goal

pub returns : goal.returns
returns c = loops.at_end
