-- Texts: small parts of the texts that several crates read and write.
-- Source: this project's own; the digits are those of base 16.
use Rattle.std.specs.Prelude.{ℕ, ◌+◌, ◌-◌, Bool, if◌then◌else◌, List, codes, drop, length, nat_lt, take}
use Rattle.std.specs.{Char.is_ascii_whitespace, List.prefix_len, List.suffix_len}

abbrev pub yes_or_no : Bool → List ℕ
yes_or_no is = if is then codes "yes" else codes "no"

-- a digit of base 16, in small letters
unfoldable pub hex_digit : ℕ → ℕ
hex_digit n = if nat_lt n 10 then 48 + n else 87 + n

-- a text without the ASCII white space around it
abbrev pub stripped : List ℕ → List ℕ
stripped text = let rest = drop (prefix_len is_ascii_whitespace text) text in take (length rest - suffix_len is_ascii_whitespace rest) rest
