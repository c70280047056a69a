-- A word for the test of an entry's reach. No public clause cites it.
-- Source: this project's own.
use Rattle.std.specs.Prelude.{ℕ, Bool, false, Option, Some, None, nat_lt}

-- a reach that is less than a need: the question of the code
abbrev pub falls_short : Option ℕ → ℕ → Bool
falls_short None need = false
falls_short (Some most) need = nat_lt most need
