-- LinesOfEnds: what is said of the file of the ends.
-- Source: docs/running.md, "What the operator sees".
use Rattle.std.specs.Prelude.{◌≡◌, ℕ, Bool, if◌then◌else◌, List, [], ◌∷◌, Option, Some, None, Result, Ok, Err, codes}
use Rattle.base_clock.specs.declared.reading.Reading.{Reading}
use Rattle.base_disk.specs.declared.fault.DiskFault.{DiskFault}
use Rattle.base_log.specs.declared.level.Level.{Level}
use Rattle.base_log.specs.declared.level.Level.TheVariants.{Alert, Note}
use Rattle.base_log.specs.declared.line.LineWord.TheVariants as words
use Rattle.agent_log.specs.LogDesk.{Desk}
use Rattle.agent_log.specs.Lines.{Line, LineIsSaid, said_line}
use Rattle.agent_words.specs.{Moments.second_of, Reasons.disk_words}

abbrev pub ends_line : Level → List ℕ → DiskFault → Line
ends_line level what fault = said_line level (codes "ends") (words.Text what ∷ words.Text (disk_words fault) ∷ [])

-- the ends from before the start cannot be read
abbrev pub unread_line : DiskFault → Line
unread_line fault = ends_line Alert (codes "cannot be read:") fault

-- the ends cannot be kept
abbrev pub unkept_line : DiskFault → Line
unkept_line fault = ends_line Note (codes "could not be kept:") fault

-- that is said once, as long as it lasts
abbrev pub tried_lines : Bool → Option (Result (Unit {0}) DiskFault) → List Line
tried_lines was_failing None = []
tried_lines was_failing (Some (Ok kept)) = []
tried_lines was_failing (Some (Err fault)) = if was_failing then [] else unkept_line fault ∷ []

-- the agent may have heard no clock yet
pub record HearsUnread (now : Reading) (fault : DiskFault) (old new : Desk) : Type 0 where
  pub said : LineIsSaid old.form (second_of now.wall) (unread_line fault) old.room new.room
  pub rest : new ≡ record old { room = new.room }
