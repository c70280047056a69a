-- Nexts: the next time of an entry is said where it is another than was said last, and shown.
-- Source: this project's own; docs/running.md, "What the operator sees".
use Rattle.std.specs.Prelude.{◌≡◌, ℕ, Option, Some, None}
use Rattle.agent_standing.specs.Agent.{Agent}
use Rattle.watch_machine.specs.{Outlook.broker_moment, State.WatchState, declared.outlook.Next.Next}
use Rattle.agent_log.specs.{LinesOfNexts.next_lines, LogDesk.SaysLines}
use Rattle.agent_house.specs.declared.house.House.{House}

-- by the broker's clock
abbrev pub next_there : WatchState → Option Next → Option Next
next_there m None = None
next_there m (Some next) = Some (record next { at = broker_moment m next.at })

-- it is said where it is another than was said last
pub record SaysNext {S T D K E : Type 0} (a : Agent) (there : Option Next) (old new : House S T D K E) : Type 0 where
  pub desk : SaysLines a (next_lines a old.next there) old.desk.marks old.desk new.desk
  pub rest : new ≡ record old { desk = new.desk; next = Some there }

-- where it was not told nothing is done
abbrev pub HearsNext : {S T D K E : Type 0} → Agent → Option (Option Next) → House S T D K E → House S T D K E → Type 0
HearsNext a None old new = new ≡ old
HearsNext a (Some next) old new = SaysNext a (next_there a.machine next) old new

-- what onlookers are shown
abbrev pub next_wake_of : Option (Option Next) → Option ℕ
next_wake_of None = None
next_wake_of (Some None) = None
next_wake_of (Some (Some next)) = Some next.at
