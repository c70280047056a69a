-- Numbers: numbers of a command line.
-- Source: this project's own; decimal digits are as std reads them.
use Rattle.std.specs.Prelude.{◌≡◌, ℕ, ◌^◌, ◌<◌, List, Option, Some, None}
use Rattle.std.specs.Option.{SomeIff}
use Rattle.std.specs.Str.Parse.{IsNumeral, digits_value, without_leading_plus}

-- the number of a word that is decimal digits, of which a plus may stand in front, where it is less than 2^64
abbrev pub GivesNumber : List ℕ → Option ℕ → Type 0
GivesNumber word number = SomeIff number (IsNumeral 10 (without_leading_plus word) × (digits_value 10 (without_leading_plus word) < 2 ^ 64)) (digits_value 10 (without_leading_plus word))

-- the number of a word that may be given; where it is absent, that which stands for it
abbrev pub NumberOr : ℕ → Option (List ℕ) → Option ℕ → Type 0
NumberOr absent None number = number ≡ Some absent
NumberOr absent (Some word) number = GivesNumber word number
