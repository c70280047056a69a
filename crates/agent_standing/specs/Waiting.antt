-- Waiting: changes that are served together.
-- Source: this project's own.
use Rattle.std.specs.Prelude.{ℕ, ◌+◌, Bool, false, Option, Some, None, min, nat_le, option_map}
use Rattle.agent_standing.specs.declared.waiting.TheConstants.{TOGETHER}

-- when the first of the changes came that wait, None where none does; after one more
abbrev pub changed : Option ℕ → ℕ → Option ℕ
changed None now = Some now
changed (Some first) now = Some first

-- the first came five seconds ago
abbrev pub is_change_due : Option ℕ → ℕ → Bool
is_change_due None now = false
is_change_due (Some first) now = nat_le (first + TOGETHER) now

-- from when on it is, as far as a number of 64 bits leads; none where no change waits
abbrev pub change_due_at : Option ℕ → Option ℕ
change_due_at first = option_map (λ n. min (n + TOGETHER) 18446744073709551615) first
