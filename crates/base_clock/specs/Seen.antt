-- Seen: what contracts see of a clock.
-- Source: this project's own.
use Rattle.std.specs.Prelude.{◌≡◌, ℕ, List, [], ◌∷◌, ◌++◌, Option, Some, None, IfSome}
use Rattle.base_clock.specs.{declared.call.ClockCall.ClockCall, declared.reading.Reading.Reading}
use Rattle.base_clock.specs.declared.call.ClockCall.TheVariants as calls

-- what was asked of it from the first call on, where that is known; and how many of its calls failed, up to the greatest `u64`
pub record ClockSeen : Type 0 where
  pub calls : Option (List ClockCall)
  pub failed_calls : ℕ

-- these calls were made and no others, in this order: what is known of the calls now was known before, and these are more
abbrev pub AllMade : List ClockCall → ClockSeen → ClockSeen → Type 0
AllMade more old new = IfSome new.calls (λ cs. (before : List ClockCall) × (old.calls ≡ Some before) × (cs ≡ before ++ more))

-- one call was made, and this one
abbrev pub CallIsMade : ClockCall → ClockSeen → ClockSeen → Type 0
CallIsMade call old new = AllMade (call ∷ []) old new

-- the call that reads both clocks, by what it told, if it told anything
abbrev pub read_call : Option Reading → ClockCall
read_call None = calls.Unread
read_call (Some reading) = calls.Read reading.wall reading.elapsed

-- a clock outside: only the count of its failures is known
abbrev pub outside_clock : ℕ → ClockSeen
outside_clock failures = record { calls = None; failed_calls = failures }
