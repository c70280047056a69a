-- Places: where a broker listens, as a word of the command line says it.
-- Source: this project's own; decimal digits are as std reads them.
use Rattle.std.specs.Prelude.{◌≡◌, ℕ, ◌≤◌, List, Option, Some, None}
use Rattle.std.specs.Str.Parse.{IsNumeral, digits_value, without_leading_plus}
use Rattle.base_device.specs.{declared.place.Place.Place, Places.IsPath}
use Rattle.base_device.specs.declared.place.Place.TheVariants as places

-- the word is decimal digits, of which a plus may stand in front, and their number is from `least` to 65535
pub record IsPortFrom (least : ℕ) (word : List ℕ) (port : ℕ) : Type 0 where
  pub digits : IsNumeral 10 (without_leading_plus word)
  pub number : port ≡ digits_value 10 (without_leading_plus word)
  pub low : least ≤ port
  pub high : port ≤ 65535

-- the place that a word says: its path; or its port, where it is no path; and none where it is neither
abbrev pub ReadsPlace : ℕ → List ℕ → Option Place → Type 0
ReadsPlace least word (Some (places.Path path)) = IsPath word × (path.now ≡ word)
ReadsPlace least word (Some (places.Port port)) = (IsPath word → ⊥) × IsPortFrom least word port
ReadsPlace least word None = (IsPath word → ⊥) × ((port : ℕ) → IsPortFrom least word port → ⊥)
