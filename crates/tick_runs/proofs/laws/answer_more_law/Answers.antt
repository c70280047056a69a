-- With one answer more, a round goes on as the loop over its entries keeps it.
use Rattle.tick_runs.proofs.Loops as loops
use Rattle.tick_runs.proofs.laws.answer_more_law.Goals as goal

pub returns : goal.returns
returns c = loops.answer_more
