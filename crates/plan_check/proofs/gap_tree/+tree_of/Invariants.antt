-- The building of the tree ends, since each side has fewer gaps.
use Rattle.std.proofs.Common.{length}
use Rattle.plan_check.proofs.gap_tree.+tree_of.Given as goal

abbrev pub decreases-tree_of : goal.decreases-tree_of
decreases-tree_of l = length l.gaps.now
