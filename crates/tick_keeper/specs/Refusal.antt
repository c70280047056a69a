-- Refusal: which events are refused, whatever the plan made anew would be.
-- Source: this project's own.
use Rattle.std.specs.Prelude.{ℕ, ◌==◌, ◌≤◌, Bool, false, if◌then◌else◌, Option, Some, None, length, nat_lt, nat_le, is_some}
use Rattle.std.specs.List.{list_any}
use Rattle.base_moment.specs.declared.moment.TheConstants.{LAST}
use Rattle.tick_keeper.specs.{declared.event.Event.Event, declared.fault.StepFault.StepFault, declared.refusal.TheConstants.LONGEST, State.CoreState, State.Round}
use Rattle.tick_keeper.specs.declared.event.Event.TheVariants.{Tick, Told, Refused, Lost, Need}
use Rattle.tick_keeper.specs.declared.fault.StepFault.TheVariants.{ClockBack, RoundOpen, NotAsked, BadIndex, OutOfRange}

-- the seconds that are told, if any are, are a duration
abbrev pub TellsSpan : Event → Type 0
TellsSpan (Told i seconds renewable) = seconds ≤ LONGEST
TellsSpan event = Unit {0}

-- whether i is among the unanswered of the round, where one is open
abbrev pub waits_for : Option Round → ℕ → Bool
waits_for None i = false
waits_for (Some round) i = list_any (λ j. j == i) round.unanswered

-- a round is open
abbrev pub unless_closed : CoreState → Option StepFault
unless_closed s = if is_some s.round then Some RoundOpen else None

-- no such entry, or it is not waited for
abbrev pub unless_waited_for : CoreState → ℕ → Option StepFault
unless_waited_for s i = if nat_le (length s.forest.entries) i then Some BadIndex else (if waits_for s.round i then None else Some NotAsked)

-- the refusal of an event, None where it has none. The order is OutOfRange, BadIndex, ClockBack, RoundOpen, NotAsked
unfoldable pub step_refusal : CoreState → Event → Option StepFault
step_refusal s (Tick t) = if nat_lt LAST t then Some OutOfRange else (if nat_lt t s.last then Some ClockBack else unless_closed s)
step_refusal s (Told i seconds renewable) = if nat_lt LONGEST seconds then Some OutOfRange else unless_waited_for s i
step_refusal s (Refused i) = unless_waited_for s i
step_refusal s (Lost i) = unless_waited_for s i
step_refusal s (Need i until) = if nat_lt LAST until then Some OutOfRange else (if nat_le (length s.forest.entries) i then Some BadIndex else unless_closed s)
