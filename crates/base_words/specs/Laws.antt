-- Laws of pieces: what is cut can be joined, and what is joined is cut into the same pieces.
use Rattle.std.specs.Prelude.{◌≡◌, ℕ, not, ◌==◌, true, List, [], ◌∷◌}
use Rattle.std.specs.List.{join_with_byte, list_all}
use Rattle.base_words.specs.Pieces.{pieces}

-- the pieces of a text, joined by the byte that parts them, are the text
abbrev pub JoinedBack : Type 0
JoinedBack = (b : ℕ) (text : List ℕ) → join_with_byte b (pieces b text) ≡ text

-- none of the bytes is this one
abbrev pub Lacks : ℕ → List ℕ → Type 0
Lacks b text = list_all (λ x. not (x == b)) text ≡ true

abbrev pub AllLack : ℕ → List (List ℕ) → Type 0
AllLack b [] = Unit {0}
AllLack b (w ∷ ws) = Lacks b w × AllLack b ws

-- pieces in which the byte does not stand, one or more, are cut out of what is joined by it
abbrev pub CutBack : Type 0
CutBack = (b : ℕ) (w : List ℕ) (ws : List (List ℕ)) → AllLack b (w ∷ ws) → pieces b (join_with_byte b (w ∷ ws)) ≡ w ∷ ws
