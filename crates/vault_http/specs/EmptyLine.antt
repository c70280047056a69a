-- Empty lines: a head ends with one, and others may stand before it (RFC 9112, sections 2.1 and 2.2).
use Rattle.std.specs.Prelude.{◌≡◌, ℕ, ◌+◌, ◌<◌, Bool, ◌||◌, ◌==◌, List, ◌∷◌, ◌++◌, length}
use Rattle.httparse.specs.Grammar.{LineEnd, print_end}

-- an empty line that ends after the first n bytes: a line feed and a line end
pub record HasLineBehind (n : ℕ) (bytes : List ℕ) : Type 0 where
  pub front : List ℕ
  pub end : LineEnd
  pub rest : List ℕ
  pub bytes_are : bytes ≡ front ++ (10 ∷ (print_end end ++ rest))
  pub behind : n < length front + 1 + length (print_end end)

-- a byte of a line end: a carriage return or a line feed
abbrev pub is_line_end_byte : ℕ → Bool
is_line_end_byte b = b == 13 || b == 10
