-- Pauses: how long after a failure an entry is not asked.
-- Source: this project's own.
use Rattle.std.specs.Prelude.{ℕ, ◌-◌, ◌*◌, ◌/◌, ◌^◌, Bool, ◌&&◌, if◌then◌else◌, Option, Some, None, max, min, nat_le, nat_lt}
use Rattle.watch_machine.specs.{declared.track.End.End, declared.track.Track.Track, declared.track.Try.Try, Clocks.ms}
use Rattle.watch_machine.specs.declared.track.End.TheVariants.{Unknown, At, Never}

-- the milliseconds from at to an end, where that is ahead. An unknown end counts as so much ahead after a loss
abbrev pub left_to : ℕ → ℕ → End → Bool → Option ℕ
left_to at twice Unknown lost = if lost then Some twice else None
left_to at twice (At end) lost = if nat_lt at (ms end) then Some (ms end - at) else None
left_to at twice Never lost = None

-- a sixteenth of what is left, but at least a second; at most half a minute where the failure was a loss and little is left,
-- else five minutes
abbrev pub cap_of : ℕ → Bool → Option ℕ → ℕ
cap_of twice lost None = 300000
cap_of twice lost (Some left) = min (if lost && nat_le left twice then 30000 else 300000) (max 1000 (left / 16))

-- the longest pause of an entry after this try
unfoldable pub cap : ℕ → ℕ → Track → Try → ℕ
cap margin at x t = cap_of (ms (2 * margin)) t.lost (left_to at (ms (2 * margin)) x.end t.lost)

-- a second, doubled by each failure after the first, by twenty at most
abbrev pub doubled : ℕ → ℕ
doubled n = ms (2 ^ (min 20 n - 1))

unfoldable pub pause : ℕ → ℕ → Track → Try → ℕ
pause margin at x t = min (doubled t.fails) (cap margin at x t)
