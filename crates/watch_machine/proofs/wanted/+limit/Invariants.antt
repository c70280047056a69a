-- A parent has the lower index.
use Rattle.watch_machine.proofs.wanted.+limit.Given as goal

abbrev pub decreases-limit : goal.decreases-limit
decreases-limit l = l.index
