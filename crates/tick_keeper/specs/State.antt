-- State: what an executor holds between two events.
-- Source: this project's own.
use Rattle.std.specs.Prelude.{ℕ, List, [], Option, Some, None}
use Rattle.plan_forest.specs.Forest.{Forest}
use Rattle.tick_keeper.specs.declared.shortened.ShortNeed.{ShortNeed}

-- a round: its moment, and the entries that were asked and have not answered
pub record Round : Type 0 where
  pub at : ℕ
  pub unanswered : List ℕ

-- the moment of a round, where one is open
abbrev pub moment_of_round : Option Round → Option ℕ
moment_of_round None = None
moment_of_round (Some round) = Some round.at

-- the forest, with ends as told and needs in force; the last moment; the moments to come; the round that is open, if any;
-- and the needs that were shortened
pub record CoreState : Type 0 where
  pub forest : Forest
  pub last : ℕ
  pub to_come : List ℕ
  pub round : Option Round
  pub shortened : List ShortNeed

-- the state that is planned at the opening: a forest, and nothing that happened
abbrev pub unplanned : Forest → CoreState
unplanned g = record { forest = g; last = 0; to_come = []; round = None; shortened = [] }
