-- State: what a scout holds between two steps.
-- Source: this project's own.
use Rattle.std.specs.Prelude.{ℕ, List, None, length, replicate, slice_index_or}
use Rattle.plan_forest.specs.Forest.{Forest}
use Rattle.watch_scout.specs.declared.scout.Seen.{Seen}

-- the margin of the agent in front; the most lookups that are out at once; what was looked up of each entry; and how many are out
pub record ScoutState : Type 0 where
  pub margin : ℕ
  pub width : ℕ
  pub seen : List Seen
  pub out : ℕ

-- nothing was looked up yet
abbrev pub unseen : Seen
unseen = record { looked = None; since = None }

abbrev pub seen_in : List Seen → ℕ → Seen
seen_in xs i = slice_index_or xs i unseen

abbrev pub seen_at : ScoutState → ℕ → Seen
seen_at s i = seen_in s.seen i

-- a new scout beside a watch over that forest
abbrev pub opened_scout : Forest → ℕ → ℕ → ScoutState
opened_scout g margin width = record { margin = margin; width = width; seen = replicate (length g.entries) unseen; out = 0 }
