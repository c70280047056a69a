-- Widening: how far a bisection of margins has come.
use Rattle.std.specs.Prelude.{ℕ, ◌<◌, ◌≤◌}
use Rattle.plan_forest.specs.{Forest.Forest, Margins.IsMargin}
use Rattle.plan_search.specs.{declared.widest.Widest.Widest, Widest.IsEnough, Widest.IsFewest}

-- low is 0, or enough with its fewest wake-ups; and none over high is enough
pub record WidestIsBetween (g : Forest) (s most : ℕ) (low : Widest) (high : ℕ) : Type 0 where
  pub ordered : low.margin ≤ high
  pub enough : 0 < low.margin → IsEnough g s most low.margin
  pub fewest : 0 < low.margin → IsFewest (record g { margin = low.margin }) s low.wakes
  pub allowed : 0 < high → IsMargin g.entries high
  pub none_over : (margin : ℕ) → IsEnough g s most margin → margin ≤ high
