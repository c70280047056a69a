-- Times: a time in whole milliseconds.
-- Source: POSIX, `clock_gettime`: a time is whole seconds and nanoseconds below 1,000,000,000.
use Rattle.std.specs.Prelude.{ℕ, ◌+◌, ◌-◌, ◌*◌, ◌/◌, ◌^◌, min, ℤ, pos, negsuc, Option, Some, None, option_and_then, option_map}

abbrev pub natural : ℤ → Option ℕ
natural (pos n) = Some n
natural (negsuc n) = None

-- the whole milliseconds of seconds and nanoseconds, the greatest `u64` at most
abbrev pub whole_millis : ℕ → ℕ → ℕ
whole_millis seconds nanos = min (seconds * 1000 + nanos / 1000000) (2 ^ 64 - 1)

-- the same, where neither is negative
abbrev pub millis_of : ℤ → ℤ → Option ℕ
millis_of seconds nanos = option_and_then (λ s. option_map (λ n. whole_millis s n) (natural nanos)) (natural seconds)
