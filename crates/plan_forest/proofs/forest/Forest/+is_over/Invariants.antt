-- The walk up from the lower entry ends, since its index falls at each parent.
use Rattle.plan_forest.proofs.forest.Forest.+is_over.Given as goal

abbrev pub decreases-is_over : goal.decreases-is_over
decreases-is_over l = l.below
