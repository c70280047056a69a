-- Each entry that is needed has its row listed at each moment before its need.
use Rattle.tick_runs.proofs.Whole as whole
use Rattle.tick_runs.proofs.laws.stands_law.Goals as goal

pub returns : goal.returns
returns c = whole.all_stand
