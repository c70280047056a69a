-- Rests: for how long an agent may rest that something is due for.
-- Source: this project's own.
use Rattle.std.specs.Prelude.{ℕ, ◌-◌, if◌then◌else◌, Option, Some, None, nat_lt, option_map}
use Rattle.base_device.specs.Moments.{earlier}
use Rattle.base_clock.specs.declared.rest.TheConstants.{TRY_AGAIN}

-- until a moment at which something is due. Where that has come, it was tried and could not be done: it is tried again a little later
abbrev pub until_due : ℕ → ℕ → ℕ
until_due at now = if nat_lt now at then at - now else TRY_AGAIN

-- where there is such a moment
abbrev pub rest_until : Option ℕ → ℕ → Option ℕ
rest_until at now = option_map (λ n. until_due n now) at

-- the shorter of two rests, of which there may be none
abbrev pub shorter : Option ℕ → Option ℕ → Option ℕ
shorter None other = other
shorter (Some n) other = Some (earlier n other)
