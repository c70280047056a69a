-- With one tick more, and its round, a run goes on as the loop over its wake-ups keeps it.
use Rattle.tick_runs.proofs.Loops as loops
use Rattle.tick_runs.proofs.laws.tick_more_law.Goals as goal

pub returns : goal.returns
returns c = loops.tick_more
