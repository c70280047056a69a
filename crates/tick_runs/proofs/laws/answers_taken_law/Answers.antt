-- Without faults no answer of a round is refused but for lack of memory.
use Rattle.tick_runs.proofs.Whole as whole
use Rattle.tick_runs.proofs.laws.answers_taken_law.Goals as goal

pub returns : goal.returns
returns c = whole.answers_taken
