-- The search for what binds an entry ends, since each parent has a lower index.
use Rattle.plan_commands.proofs.bound.+bound_of.Given as goal

abbrev pub decreases-bound_of : goal.decreases-bound_of
decreases-bound_of l = l.index
