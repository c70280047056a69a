-- Moments: the moments that are written, in lines and in words.
-- Source: docs/running.md, "What the operator sees".
use Rattle.std.specs.Prelude.{ℕ, ◌+◌, ◌-◌, ◌/◌, min}
use Rattle.base_log.specs.declared.line.LineWord.{LineWord}
use Rattle.base_log.specs.declared.line.LineWord.TheVariants as words
use Rattle.base_moment.specs.declared.moment.TheConstants.{LAST}
use Rattle.watch_machine.specs.State.{WatchState}

-- a number as the program holds it: no greater than 2^64 - 1
abbrev pub number_held : ℕ → ℕ
number_held n = min n 18446744073709551615

-- a moment, no later than the last one
abbrev pub moment_word : ℕ → LineWord
moment_word seconds = words.Moment (min seconds LAST)

-- the second that a wall clock shows at so many milliseconds, no later than the last moment
abbrev pub second_of : ℕ → ℕ
second_of millis = min (millis / 1000) LAST

-- the moment of a line: what the wall's clock shows, as the machine has it, at the moment that was handed in last
abbrev pub now_of : WatchState → ℕ
now_of m = second_of (number_held (m.clocks.at + m.clocks.wall.there) - m.clocks.wall.here)
