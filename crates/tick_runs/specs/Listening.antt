-- Listening: event lines, one after another: what they mean, which are heard, and how listening ends.
-- Source: this project's own.
use Rattle.std.specs.Prelude.{◌≡◌, ℕ, ◌⊎◌, IsTrue, List, None, Some, Result}
use Rattle.base_device.specs.{Seen.Change, Seen.Receives, Failures.HasFailed}
use Rattle.program_lines.specs.{Hearing.Hearing, declared.limits.InputLimits.InputLimits, declared.event_line.HeardLine.HeardLine, EventLines.heard_in}
use Rattle.program_lines.specs.Listening as lines
use Rattle.program_report.specs.{declared.stop.Stop.Stop, Sent.IsAll}
use Rattle.program_report.specs.declared.stop.Stop.TheVariants as stops
use Rattle.tick_runs.specs.{declared.live.listening.TheConstants.MOST_EVENTS, declared.live.listening.TheConstants.MOST_EVENT_READS, Closed.World}
use Rattle.tick_runs.specs.Hearing.{EventIsCutOff, EventIsHeard, IsBrokenOff, NeedIsOverlong}

-- ---- lines

-- a line says an event in the forest of its moment; the event is heard, by requests that name this port, and has this text
pub record EventLineIsHeard (port : ℕ) (cs : List (List ℕ)) (old : World) (line : List ℕ) (new : World) (text : List ℕ) : Type 0 where
  pub says : HeardLine
  pub is : heard_in old.keeper.forest line ≡ Some says
  pub heard : EventIsHeard port cs old says new text

-- ---- where a line stops a run

-- the line says a new need, with which the plan would be too long; nothing is changed
abbrev pub PlanBecomesTooLong : World → List ℕ → World → Type 0
PlanBecomesTooLong old line new = (says : HeardLine) × ((heard_in old.keeper.forest line ≡ Some says) × NeedIsOverlong old says new)

-- the line is heard up to a write that was cut short
abbrev pub IsCutShort : ℕ → List (List ℕ) → World → List ℕ → World → List ℕ → Change → Type 0
IsCutShort port cs old line new text out = (says : HeardLine) × ((heard_in old.keeper.forest line ≡ Some says) × EventIsCutOff port cs old says new text out)

-- the line is a tick that is heard up to some answer
abbrev pub IsBrokenShort : ℕ → List (List ℕ) → World → List ℕ → World → List ℕ → Change → Type 0
IsBrokenShort port cs old line new text out = (says : HeardLine) × ((heard_in old.keeper.forest line ≡ Some says) × IsBrokenOff port cs old says new text out)

-- memory was wanting before anybody was asked for what the line says
abbrev pub IsWantingAt : World → List ℕ → List ℕ → World → Change → Type 0
IsWantingAt old line text new out = (says : HeardLine) × ((heard_in old.keeper.forest line ≡ Some says) × ((new.behind ≡ old.behind) × Receives text out))

-- how hearing a line ends short, after this text: the plan would be too long; a write failed; or memory was wanting
abbrev pub EventEndsShort : ℕ → List (List ℕ) → World → List ℕ → List ℕ → Stop → World → Change → Type 0
EventEndsShort port cs old line text stops.TooLong new out = PlanBecomesTooLong old line new × IsAll text out
EventEndsShort port cs old line text stops.Write new out = HasFailed out.old.failed_calls out.new.failed_calls × IsCutShort port cs old line new text out
EventEndsShort port cs old line text stops.Memory new out =
    IsWantingAt old line text new out ⊎ (IsBrokenShort port cs old line new text out ⊎ (IsTrue out.is_in_memory × IsCutShort port cs old line new text out))
EventEndsShort port cs old line text stop new out = ⊥

-- ---- the events

-- what event lines mean, to requests that name this port
abbrev pub hearing_of_events : ℕ → List (List ℕ) → Hearing World
hearing_of_events port cs = record { is_none = λ old line. heard_in old.keeper.forest line ≡ None; is_heard = EventLineIsHeard port cs; stops = EventEndsShort port cs }

-- the port that requests name, and the credentials that they are made with
pub record Asked : Type 0 where
  pub port : ℕ
  pub credentials : List (List ℕ)

-- how much of the events is heard
abbrev pub event_limits : InputLimits
event_limits = record { bytes = Some MOST_EVENTS; reads = MOST_EVENT_READS }

-- lines are heard, one after another, and their texts stand one after another
abbrev pub EventLinesAreHeard : ℕ → List (List ℕ) → World → List (List ℕ) → World → List ℕ → Type 0
EventLinesAreHeard port cs old heard new text = lines.AreHeard World (hearing_of_events port cs) old heard new text

-- how listening ends after the lines of this text, before these pieces
abbrev pub EventListeningEnds : ℕ → List (List ℕ) → List ℕ → ℕ → World → List (List ℕ) → List ℕ → Result (Unit {0}) Stop → World → Change → Change → Type 0
EventListeningEnds port cs read number old behind text result new fed out = lines.ListensTo World (hearing_of_events port cs) event_limits read number old behind text result new fed out

-- listening to the events: what was read of them, by at most 65,536 reads; the lines of its first 1 MiB that were heard, and
-- what that came to; and how it ended after them
abbrev pub ListensToEvents : ℕ → List (List ℕ) → World → Result (Unit {0}) Stop → World → Change → Change → Type 0
ListensToEvents port cs old result new fed out = lines.Listens World (hearing_of_events port cs) event_limits old result new fed out
