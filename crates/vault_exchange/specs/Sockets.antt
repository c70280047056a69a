-- Exchanges over sockets, to contracts: where the broker listens, and how long a call may take.
-- Source: this project's own.
use Rattle.std.specs.Prelude.{◌≡◌, ℕ, ◌⊎◌, Bool, true, false, ◌||◌, min, Option, Some, None, Result, Ok, Err, if◌then◌else◌}
use Rattle.vault_exchange.specs.declared.fault.ExchangeFault.{ExchangeFault}
use Rattle.base_device.specs.declared.place.Place.{Place}
use Rattle.base_device.specs.declared.place.Place.TheVariants.{Port, Path}
use Rattle.vault_http.specs.declared.reply.Reply.{Reply}

-- an exchange, one request after another: where its broker listens, the longest time that a call may take, in nanoseconds,
-- whether those to come may take a quarter of a second at most, and the count of failures
pub record Socket : Type 0 where
  pub place : Place
  pub longest : ℕ
  pub is_short : Bool
  pub failures : ℕ

-- the port that requests to a broker at that place name
abbrev pub port_of : Place → ℕ
port_of (Port port) = port
port_of (Path path) = 8200

-- a quarter of a second, or the longest time where that is less
abbrev pub quarter_of : ℕ → ℕ
quarter_of longest = min longest 250_000_000

-- how long the next connect, read or write may take
abbrev pub limit_of : ℕ → Bool → ℕ
limit_of longest is_short = if is_short then quarter_of longest else longest

-- whether the next ones may take a quarter of a second at most, after an exchange: not once there is a reply; else where a call
-- of it took too long, or where it was so before
abbrev pub learned : Bool → Bool → Bool → Bool
learned has_reply is_late is_short = if has_reply then false else (is_late || is_short)

-- after an exchange without a reply: what it was, or a quarter of a second
abbrev pub Slows : ℕ → ℕ → ℕ → Type 0
Slows longest old new = (new ≡ old) ⊎ (new ≡ quarter_of longest)

-- after an exchange: the longest time again once there is a reply
abbrev pub Paces : Result Reply ExchangeFault → ℕ → ℕ → ℕ → Type 0
Paces (Ok reply) longest old new = new ≡ longest
Paces (Err fault) longest old new = Slows longest old new

-- after a renewal
abbrev pub PacesAsked : {E : Type 0} → Result (Option Reply) E → ℕ → ℕ → ℕ → Type 0
PacesAsked (Ok (Some reply)) longest old new = new ≡ longest
PacesAsked (Ok None) longest old new = Slows longest old new
PacesAsked (Err fault) longest old new = Slows longest old new

-- after a lookup, which may have a reply that is not applied
abbrev pub PacesLooked : {E : Type 0} → Result Bool E → ℕ → ℕ → ℕ → Type 0
PacesLooked (Ok true) longest old new = new ≡ longest
PacesLooked result longest old new = (new ≡ longest) ⊎ Slows longest old new
