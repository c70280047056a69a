-- Records: what the bytes of a journal stand for.
-- Source: this project's own.
use Rattle.std.specs.Prelude.{◌≡◌, ◌≢◌, ◌⊎◌, ℕ, List, [], ◌∷◌, ◌++◌, Bool, true, false, get_or}
use Rattle.std.specs.List.{AllByRecursion}

-- a line of text: no line feed stands in it
abbrev pub IsRecordLine : List ℕ → Type 0
IsRecordLine line = AllByRecursion (λ byte. byte ≢ 10) line

abbrev pub AreLines : List (List ℕ) → Type 0
AreLines lines = AllByRecursion IsRecordLine lines

-- a record in the file: an open gate (a plus sign), the line, a line feed
abbrev pub block : List ℕ → List ℕ
block line = 43 ∷ (line ++ 10 ∷ [])

abbrev pub blocks : List (List ℕ) → List ℕ
blocks [] = []
blocks (line ∷ lines) = block line ++ blocks lines

-- a file at rest: the records, and then a closed gate (a minus sign)
abbrev pub at_rest : List (List ℕ) → List ℕ
at_rest lines = blocks lines ++ 45 ∷ []

-- A file stands for these records: it begins with them, and what comes after them begins with no record.
pub record StandsFor (file : List ℕ) (lines : List (List ℕ)) : Type 0 where
  pub are_lines : AreLines lines
  pub end : List ℕ
  pub split : file ≡ blocks lines ++ end
  pub nothing : (line rest : List ℕ) → IsRecordLine line → end ≢ block line ++ rest

-- the records with one more, or without it
abbrev pub IsBeforeOrAfter : List (List ℕ) → List ℕ → List ℕ → Type 0
IsBeforeOrAfter lines line file = StandsFor file lines ⊎ StandsFor file (lines ++ line ∷ [])

-- the records that are not taken out
abbrev pub lines_kept : List (List ℕ) → List Bool → List (List ℕ)
lines_kept [] outs = []
lines_kept (line ∷ lines) [] = line ∷ lines
lines_kept (line ∷ lines) (true ∷ outs) = lines_kept lines outs
lines_kept (line ∷ lines) (false ∷ outs) = line ∷ lines_kept lines outs

-- whether the record with this index is taken out
abbrev pub is_out : List Bool → ℕ → Bool
is_out outs at = get_or outs at false

-- the records that are taken out, each with a line feed after it
abbrev pub lines_taken_out : List (List ℕ) → List Bool → List ℕ
lines_taken_out [] outs = []
lines_taken_out (line ∷ lines) [] = []
lines_taken_out (line ∷ lines) (true ∷ outs) = line ++ 10 ∷ lines_taken_out lines outs
lines_taken_out (line ∷ lines) (false ∷ outs) = lines_taken_out lines outs
