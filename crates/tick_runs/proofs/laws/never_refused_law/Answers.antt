-- With any faults, the keeper refuses a tick or an answer only for a plan too long or lack of memory.
use Rattle.tick_runs.proofs.Refusing as refusing
use Rattle.tick_runs.proofs.laws.never_refused_law.Goals as goal

pub returns : goal.returns
returns c = refusing.never_refused
