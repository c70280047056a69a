-- The walk to the root ends, since each parent has a lower index than its child.
use Rattle.plan_forest.proofs.forest.Forest.+depth.Given as goal

abbrev pub decreases-depth : goal.decreases-depth
decreases-depth l = l.index
