-- Ends: what becomes of the file of the ends.
-- Source: this project's own; docs/running.md, "What the operator sees".
use Rattle.std.specs.Prelude.{◌≡◌, ℕ, Bool, true, false, ◌||◌, Option, Some, None, Result, option_map}
use Rattle.agent_standing.specs.Agent.{Agent}
use Rattle.base_disk.specs.{State.DiskState, declared.fault.DiskFault.DiskFault}
use Rattle.agent_ends.specs.{Files.EndsFileGoesOn, Files.tells_of_end, declared.file.EndsFile.EndsFile}
use Rattle.watch_machine.specs.declared.event.WatchReply.{WatchReply}
use Rattle.agent_log.specs.{LinesOfEnds.tried_lines, LogDesk.SaysLines}
use Rattle.agent_house.specs.declared.house.House.{House}

abbrev pub is_failing : {E : Type 0} → Option (EndsFile E) → Bool
is_failing None = false
is_failing (Some ends) = ends.is_failing

abbrev pub EndsGoOn : {E : Type 0} → Bool → (E → DiskState) → Agent → ℕ → Option (Result (Unit {0}) DiskFault) → Option (EndsFile E) → Option (EndsFile E) → Type 0
EndsGoOn known state agent now tried None new = (tried ≡ None) × (new ≡ None)
EndsGoOn known state agent now tried (Some old) None = ⊥
EndsGoOn known state agent now tried (Some old) (Some new) = EndsFileGoesOn known state agent now tried old new

-- in a turn they are kept, where that is due; and that they could not be is said, unless it was so before. Nothing else changes
pub record KeepsEnds {S T D K E : Type 0} (known : Bool) (state : E → DiskState) (agent : Agent) (now : ℕ) (old new : House S T D K E) : Type 0 where
  pub tried : Option (Result (Unit {0}) DiskFault)
  pub ends : EndsGoOn known state agent now tried old.ends new.ends
  pub desk : SaysLines agent (tried_lines (is_failing old.ends) tried) old.desk.marks old.desk new.desk
  pub rest : new ≡ record old { desk = new.desk; ends = new.ends }

-- an answer is heard of
abbrev pub after_answer : {E : Type 0} → WatchReply → EndsFile E → EndsFile E
after_answer reply f = record f { is_stale = f.is_stale || tells_of_end reply }

abbrev pub HearsEnd : {S T D K E : Type 0} → WatchReply → House S T D K E → House S T D K E → Type 0
HearsEnd reply old new = new ≡ record old { ends = option_map (after_answer reply) old.ends }

-- another inventory is served: what was said of the next time counts no more, and the ends are to be kept anew
abbrev pub to_be_kept : {E : Type 0} → EndsFile E → EndsFile E
to_be_kept f = record f { is_stale = true }

abbrev pub HearsServed : {S T D K E : Type 0} → House S T D K E → House S T D K E → Type 0
HearsServed old new = new ≡ record old { next = None; ends = option_map to_be_kept old.ends }
