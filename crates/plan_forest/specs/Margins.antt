-- Margins: which margins the entries of a forest allow.
-- Source: this project's own.
use Rattle.std.specs.Prelude.{ℕ, ◌<◌, ◌≤◌, List, length}
use Rattle.plan_forest.specs.{declared.entry.Entry.Entry, declared.forest.TheConstants.MARGIN_MAX, Forest.entry_at}

-- a second or more, an hour at most, and less than each step
pub record IsMargin (es : List Entry) (margin : ℕ) : Type 0 where
  pub above : 0 < margin
  pub within : margin ≤ MARGIN_MAX
  pub below : (i : ℕ) → i < length es → margin < (entry_at es i).step

-- the greatest such margin
pub record IsMostMargin (es : List Entry) (margin : ℕ) : Type 0 where
  pub allowed : IsMargin es margin
  pub most : (other : ℕ) → IsMargin es other → other ≤ margin
