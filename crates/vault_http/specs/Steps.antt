-- What a walk over the chunks of a body finds at the front of a text.
use Rattle.std.specs.Prelude.{◌≡◌, ℕ, ◌+◌, ◌≤◌, ◌⊎◌, List, [], ◌∷◌, ◌++◌, length, take, drop, Ok, Err}
use Rattle.vault_http.specs.{declared.body.BodyFault.TheVariants.Truncated, declared.chunk.Ending.Ending, declared.chunk.Line.Line, declared.chunk.Step.Step}
use Rattle.vault_http.specs.{Chunks.line_end, Chunks.IsSize, Chunks.size_of_digits, Chunks.HasPart, Chunks.MayHave, Chunks.NeverHas, Chunks.Chunk, Chunks.IsChunk, Chunks.print_chunk, Chunks.StopsAt}
use Rattle.vault_http.specs.declared.chunk.Ending.TheVariants as ending
use Rattle.vault_http.specs.declared.chunk.Line.TheVariants as line
use Rattle.vault_http.specs.declared.chunk.Step.TheVariants as step

-- CR LF: a front of it, none whatever follows, or all of it
abbrev pub IsEnding : List ℕ → Ending → Type 0
IsEnding text ending.Open = (text ≡ []) ⊎ (text ≡ 13 ∷ [])
IsEnding text ending.Bad = (more rest : List ℕ) → text ++ more ≡ line_end ++ rest → ⊥
IsEnding text ending.Whole = text ≡ line_end ++ drop 2 text

-- the line of a size: a front of it, none whatever follows, or all of it
abbrev pub IsSizeLine : List ℕ → Line → Type 0
IsSizeLine text line.Open = MayHave IsSize text
IsSizeLine text line.Bad = NeverHas IsSize text
IsSizeLine text (line.Size n value) = HasPart IsSize text (take n text) (drop (n + 2) text) × (value ≡ size_of_digits (take n text)) × (n + 2 ≤ length text)

-- a chunk: a front of it, a whole one, the last one, or none whatever follows
abbrev pub IsStep : List ℕ → ℕ → Step → Type 0
IsStep text room step.Open = (length text ≤ room) × StopsAt room text (Err Truncated)
IsStep text room (step.Chunk start n) = (c : Chunk) × (rest : List ℕ) × IsChunk c × (text ≡ print_chunk c ++ rest) × (length (print_chunk c) ≤ room)
    × (length c.digits + 2 ≡ start) × (length c.payload ≡ n)
IsStep text room step.Last = (more : List ℕ) → StopsAt room (text ++ more) (Ok [])
IsStep text room (step.Fault fault) = (more : List ℕ) → StopsAt room (text ++ more) (Err fault)
