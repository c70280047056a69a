-- The walk to the root ends, since each parent has a lower index than its child.
use Rattle.vault_lint.proofs.limits.+limit_in.Given as goal

abbrev pub decreases-limit_in : goal.decreases-limit_in
decreases-limit_in l = l.index
