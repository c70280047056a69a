-- Entrances: where guests come in, as a word of the command line says it.
-- Source: this project's own; decimal digits and addresses are as std reads them.
use Rattle.std.specs.Prelude.{◌≡◌, ℕ, ◌≤◌, ◌⊎◌, List, Option, Some, None}
use Rattle.std.specs.{Net.Grammar.IsSocketText, declared.net.socket_addr.SocketAddr.SocketAddr}
use Rattle.std.specs.Str.Parse.{IsNumeral, digits_value, without_leading_plus}
use Rattle.base_device.specs.Places.{IsHere, IsPath}
use Rattle.base_clients.specs.declared.entrance.Entrance.{Entrance}
use Rattle.base_clients.specs.declared.entrance.Entrance.TheVariants as entrances

-- the word is decimal digits, of which a plus may stand in front, and their number is a port
pub record IsPort (word : List ℕ) (port : ℕ) : Type 0 where
  pub digits : IsNumeral 10 (without_leading_plus word)
  pub number : port ≡ digits_value 10 (without_leading_plus word)
  pub high : port ≤ 65535

-- the word is a port by itself, which is one of 127.0.0.1; or it spells this address with its port
abbrev pub IsAddress : List ℕ → SocketAddr → Type 0
IsAddress word address = ((port : ℕ) × (IsPort word port × IsHere port address)) ⊎ (((port : ℕ) → IsPort word port → ⊥) × IsSocketText word address)

-- the entrance that a word says: its path; or its address, where it is no path; and none where it is neither
abbrev pub ReadsEntrance : List ℕ → Option Entrance → Type 0
ReadsEntrance word (Some (entrances.Path path)) = IsPath word × (path.now ≡ word)
ReadsEntrance word (Some (entrances.Address address)) = (IsPath word → ⊥) × IsAddress word address
ReadsEntrance word None = (IsPath word → ⊥) × ((address : SocketAddr) → IsAddress word address → ⊥)
