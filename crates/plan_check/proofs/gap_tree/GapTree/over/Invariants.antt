-- The gaps that are listed, and those of the runs that are left, are the gaps of all runs.
use Rattle.std.proofs.Common.{◌≡◌, ◌++◌, drop}
use Rattle.plan_check.specs.code.Gaps.{gaps_of}
use Rattle.plan_check.proofs.gap_tree.GapTree.over.Given as goal

abbrev pub invariant-loop-at : goal.invariant-loop-at
invariant-loop-at l = l.gaps.items ++ gaps_of (drop l.at l.runs) ≡ gaps_of l.runs
