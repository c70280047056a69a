-- Front: how far the first line of what a client has sent has come.
-- Source: this project's own.
use Rattle.std.specs.Prelude.{◌≡◌, ◌≢◌, ℕ, ◌+◌, ◌<◌, ◌≤◌, List, length, slice_index}
use Rattle.agent_control.specs.{declared.limits.TheConstants.LINE_MAX, declared.front.Front.Front}
use Rattle.agent_control.specs.declared.front.Front.TheVariants.{Open, Whole, TooLong}

-- no line feed stands among the first n bytes
abbrev pub LacksFeed : ℕ → List ℕ → Type 0
LacksFeed n bytes = (i : ℕ) → i < n → slice_index bytes i ≢ 10

-- its end is not there yet, and may come in time; it is the first n bytes, and a line feed ends it; it is too long, whatever
-- follows
abbrev pub IsLineFront : List ℕ → Front → Type 0
IsLineFront bytes Open = (length bytes ≤ LINE_MAX) × LacksFeed (length bytes) bytes
IsLineFront bytes (Whole n) = (n ≤ LINE_MAX) × (n < length bytes) × LacksFeed n bytes × (slice_index bytes n ≡ 10)
IsLineFront bytes TooLong = (LINE_MAX < length bytes) × LacksFeed (LINE_MAX + 1) bytes
