-- Rising runs, and the tree of the gaps between their moments. No public clause cites them.
use Rattle.std.specs.Prelude.{◌≡◌, ℕ, List}
use Rattle.plan_rule.specs.{declared.run.Run.Run, Runs.all_wakes, Runs.moments_of, Schedule.RisesStrictly}
use Rattle.plan_check.specs.{declared.gap_tree.GapTree.GapTree, code.Steps.AllFit}
use Rattle.plan_check.specs.code.Gaps.{HasMarks, gaps_in, gaps_of}

-- runs, and the moment from which on they rise
pub record Rising : Type 0 where
  pub start : ℕ
  pub runs : List Run

-- the moments of the runs rise from the start on, and the tree has the gaps between them
pub record AreRising (start : ℕ) (runs : List Run) (tree : GapTree) : Type 0 where
  pub fit : (n : ℕ) × AllFit n runs
  pub rising : RisesStrictly start (moments_of (all_wakes runs))
  pub marks : HasMarks tree
  pub gaps : gaps_in tree ≡ gaps_of runs
