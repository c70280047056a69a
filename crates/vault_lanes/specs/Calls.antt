-- What lanes are called for.
-- Source: this project's own.
use Rattle.std.specs.Prelude.{ℕ, List}
use Rattle.vault_lanes.specs.{declared.lanes.Answered.Answered, declared.lanes.Ask.Ask}

-- a request was sent at a moment, in milliseconds of the elapsed clock, or memory was wanting for it; those that are out went on
-- at a moment, and these answers were handed back, or memory was wanting; or they are for other indices
pub data LanesCall : Type 0 where
  Sent : ℕ → Ask → LanesCall
  Unsent : LanesCall
  WentOn : ℕ → List Answered → LanesCall
  StoodStill : ℕ → LanesCall
  Renamed : List ℕ → List ℕ → LanesCall
