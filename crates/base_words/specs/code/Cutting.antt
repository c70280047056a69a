-- A word for the cut at a byte. No public clause cites it.
-- Source: this project's own.
use Rattle.std.specs.Prelude.{ℕ, ◌==◌, List, Option}
use Rattle.std.specs.List.{position}

-- the place of the first byte b
unfoldable pub first_place : ℕ → List ℕ → Option ℕ
first_place b text = position (λ c. c == b) text
