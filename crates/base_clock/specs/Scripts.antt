-- Scripts: a clock in memory, which reads what it was given, one after the other.
-- Source: this project's own.
use Rattle.std.specs.Prelude.{ℕ, Bool, false, List, [], ◌∷◌, ◌++◌, length, nat_lt, if◌then◌else◌, Option, Some, None}
use Rattle.base_device.specs.Failures.{one_more}
use Rattle.base_clock.specs.{Seen.ClockSeen, Seen.read_call, declared.call.ClockCall.ClockCall, declared.reading.Reading.Reading}

-- the readings to come, none for one that fails; the calls that are kept, and for how many there is room; whether all that were
-- made are kept; and how many failed
pub record ClockScript : Type 0 where
  pub to_come : List (Option Reading)
  pub calls : List ClockCall
  pub room : ℕ
  pub is_whole : Bool
  pub failures : ℕ

-- what the next call reads, none where it fails: past the last reading each fails
abbrev pub next_reading : List (Option Reading) → Option Reading
next_reading [] = None
next_reading (reading ∷ readings) = reading

abbrev pub later_readings : List (Option Reading) → List (Option Reading)
later_readings [] = []
later_readings (reading ∷ readings) = readings

abbrev pub failures_after : Option Reading → ℕ → ℕ
failures_after None n = one_more n
failures_after (Some reading) n = n

-- a call is kept, where there is room for it
abbrev pub with_call : ClockCall → ClockScript → ClockScript
with_call call s =
    if nat_lt (length s.calls) s.room then record s { calls = s.calls ++ call ∷ [] } else record s { is_whole = false }

-- after a reading of both clocks
abbrev pub after_read : ClockScript → ClockScript
after_read s =
    with_call (read_call (next_reading s.to_come)) (record s { to_come = later_readings s.to_come; failures = failures_after (next_reading s.to_come) s.failures })

-- the calls, where all of them are kept
abbrev pub known_calls : ClockScript → Option (List ClockCall)
known_calls s = if s.is_whole then Some s.calls else None

abbrev pub seen_of_script : ClockScript → ClockSeen
seen_of_script s = record { calls = known_calls s; failed_calls = s.failures }
