-- Pieces: those of a text between the bytes of one value, and the words of a line between its spaces, empty ones included.
-- Source: this project's own.
use Rattle.std.specs.Prelude.{ℕ, ◌==◌, List, [], ◌∷◌, Option, Some, None}
use Rattle.std.specs.List.{slice_split}

-- the pieces of a text between the bytes b: one more than there are such bytes
unfoldable pub pieces : ℕ → List ℕ → List (List ℕ)
pieces b text = slice_split (λ c. c == b) text

-- the pieces of a text by what stands before the first byte b and what follows it, where there is one
abbrev pub parted : ℕ → List ℕ → Option (List ℕ × List ℕ) → List (List ℕ)
parted b text None = text ∷ []
parted b text (Some cut) = cut.0 ∷ pieces b cut.1

-- the words of a line
abbrev pub words : List ℕ → List (List ℕ)
words line = pieces 32 line

abbrev pub first : List (List ℕ) → List ℕ
first [] = []
first (w ∷ ws) = w

-- the first word of a line
unfoldable pub keyword : List ℕ → List ℕ
keyword line = first (words line)

abbrev pub two : List (List ℕ) → Option (List ℕ × List ℕ)
two (a ∷ b ∷ []) = Some (a, b)
two ws = None

abbrev pub three : List (List ℕ) → Option (List ℕ × List ℕ × List ℕ)
three (a ∷ b ∷ c ∷ []) = Some (a, b, c)
three ws = None

abbrev pub four : List (List ℕ) → Option (List ℕ × List ℕ × List ℕ × List ℕ)
four (a ∷ b ∷ c ∷ d ∷ []) = Some (a, b, c, d)
four ws = None

abbrev pub six : List (List ℕ) → Option (List ℕ × List ℕ × List ℕ × List ℕ × List ℕ × List ℕ)
six (a ∷ b ∷ c ∷ d ∷ e ∷ f ∷ []) = Some (a, b, c, d, e, f)
six ws = None
