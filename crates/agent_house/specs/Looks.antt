-- Looks: whoever keeps changes looks at files of credentials, and what came of it is said.
-- Source: docs/running.md, "Secrets by file".
use Rattle.std.specs.Prelude.{◌≡◌, Bool, false, Option, Some, None}
use Rattle.agent_standing.specs.Agent.{Agent}
use Rattle.base_clock.specs.declared.reading.Reading.{Reading}
use Rattle.agent_ledger.specs.{Keeping.KeepCall, Keeping.Look, Takings.quiet, declared.keeping.FileLook.FileLook}
use Rattle.agent_log.specs.{LogDesk.SaysLines, SecretLines.look_lines}
use Rattle.agent_house.specs.declared.house.House.{House}

abbrev pub AsksToLook : {K : Type 0} → (KeepCall → K → K → Type 0) → Reading → FileLook → Option K → Option K → Type 0
AsksToLook does now look None new = (look ≡ record { looked = quiet false; unproved = None }) × (new ≡ None)
AsksToLook does now look (Some old) None = ⊥
AsksToLook does now look (Some old) (Some new) = does (Look now look) old new

-- whoever keeps changes looks at files of credentials, and what came of it is said. Nothing else changes
pub record LooksAround {S T D K E : Type 0} (does : KeepCall → K → K → Type 0) (agent : Agent) (now : Reading) (goes_on : Bool) (old new : House S T D K E) : Type 0 where
  pub look : FileLook
  pub asks : AsksToLook does now look old.state new.state
  pub desk : SaysLines agent (look_lines look.looked look.unproved) old.desk.marks old.desk new.desk
  pub rest : new ≡ record old { desk = new.desk; state = new.state }
  pub more : goes_on ≡ look.looked.goes_on
