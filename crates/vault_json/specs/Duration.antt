-- How a duration stands in a body: a whole number of seconds, or a text of digits with or without a final `s`.
-- Vault, HTTP API: times such as `increment` are "an integer number of seconds" or a text with a unit; this project's
-- profile reads the unit `s` alone. The greatest duration is 4294967295 seconds.
use Rattle.std.specs.Prelude.{◌≡◌, ℕ, ◌<◌, ◌⊎◌, true, [], ◌∷◌, ◌++◌, ◌-◌, ◌^◌, ◌&&◌, ◌==◌, List, length, take, slice_index, nat_lt, if◌then◌else◌, Option, Some, None}
use Rattle.std.specs.{Char.is_ascii_digit, List.list_all, Str.Parse.digits_value}
use Rattle.serde_json.specs.Data.{Num, unsigned, negative, float, Data, null, boolean, number, string, array, object}

-- the text without one final `s`, where it has one
unfoldable pub without_unit : List ℕ → List ℕ
without_unit text = if slice_index text (length text - 1) == 115 then take (length text - 1) text else text

-- a text of decimal digits, one or more; leading zeros are taken
unfoldable pub seconds_of_digits : List ℕ → Option ℕ
seconds_of_digits text =
    if list_all is_ascii_digit text && (nat_lt 0 (length text) && nat_lt (digits_value 10 text) (2 ^ 32)) then Some (digits_value 10 text) else None

unfoldable pub seconds_of_text : List ℕ → Option ℕ
seconds_of_text text = seconds_of_digits (without_unit text)

-- A number is whole where it is written as digits alone: serde_json states `60.0`, `6e1` and `-0` as floats.
abbrev pub seconds_of_number : Num → Option ℕ
seconds_of_number (unsigned n) = if nat_lt n (2 ^ 32) then Some n else None
seconds_of_number (negative z) = None
seconds_of_number (float x) = None

abbrev pub duration_of_value : Data → Option ℕ
duration_of_value null = None
duration_of_value (boolean b) = None
duration_of_value (number n) = seconds_of_number n
duration_of_value (string s) = seconds_of_text s
duration_of_value (array ds) = None
duration_of_value (object ms) = None

-- ---- the same as a relation

-- one digit or more, of this number
abbrev pub AreDigitsOf : List ℕ → ℕ → Type 0
AreDigitsOf digits n = (list_all is_ascii_digit digits ≡ true) × (0 < length digits) × (digits_value 10 digits ≡ n)

-- the value writes the duration: as a number, or as a text of its digits with or without a final `s`
abbrev pub WritesDuration : Data → ℕ → Type 0
WritesDuration d n =
    (n < 2 ^ 32) × ((d ≡ number (unsigned n)) ⊎ ((digits : List ℕ) × AreDigitsOf digits n × ((d ≡ string digits) ⊎ (d ≡ string (digits ++ 115 ∷ [])))))
