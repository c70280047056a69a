-- Numbers: decimal digits, without a sign and without zeros in front; the number 0 is `0`.
-- Source: this project's own.
use Rattle.std.specs.Prelude.{ℕ, Bool, not, ◌&&◌, ◌||◌, ◌==◌, if◌then◌else◌, List, Option, Some, None, length, nat_lt, nat_le, slice_index}
use Rattle.std.specs.{Char.is_ascii_digit, List.list_all, Str.Parse.digits_value}

-- one digit or more, the first of which is 0 (the byte 48) only where it is alone
unfoldable pub is_spelled : List ℕ → Bool
is_spelled text = list_all is_ascii_digit text && (nat_lt 0 (length text) && (not (slice_index text 0 == 48) || length text == 1))

-- the number that a text spells, where it is at most `most`
unfoldable pub number_up_to : ℕ → List ℕ → Option ℕ
number_up_to most text = if is_spelled text && nat_le (digits_value 10 text) most then Some (digits_value 10 text) else None
