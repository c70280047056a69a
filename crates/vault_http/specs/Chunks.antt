-- A body in chunks (RFC 9112, section 7.1), in this profile: a size has 1 to 8 hexadecimal digits, and there are no
-- extensions and no trailers. Each chunk is the line of its size and CR LF, so many bytes, and CR LF; one of size 0 ends
-- the body.
use Rattle.std.specs.Prelude.{◌≡◌, ℕ, ◌+◌, ◌-◌, ◌<◌, ◌≤◌, ◌⊎◌, List, [], ◌∷◌, ◌++◌, length, take, Result, Ok, Err, IsTrue}
use Rattle.std.specs.{List.list_all, List.flat_map, List.AllByRecursion, Str.Parse.digits_value}
use Rattle.vault_http.specs.{declared.body.BodyFault.BodyFault}
use Rattle.vault_http.specs.{declared.body.BodyFault.TheVariants.TooLong, declared.body.BodyFault.TheVariants.Truncated, declared.body.BodyFault.TheVariants.BadChunk, declared.body.BodyFault.TheVariants.OutOfMemory, Framing.is_digit}

-- CR LF
abbrev pub line_end : List ℕ
line_end = 13 ∷ 10 ∷ []

-- the digits of a size
abbrev pub IsSize : List ℕ → Type 0
IsSize digits = (0 < length digits) × (length digits ≤ 8) × IsTrue (list_all (is_digit 16) digits)

-- the size that digits give
abbrev pub size_of_digits : List ℕ → ℕ
size_of_digits digits = digits_value 16 digits

-- the bytes of a chunk, which are as many as its size says
abbrev pub IsData : ℕ → List ℕ → Type 0
IsData n data_bytes = length data_bytes ≡ n

-- the text is such bytes, CR LF and the rest
abbrev pub HasPart : (List ℕ → Type 0) → List ℕ → List ℕ → List ℕ → Type 0
HasPart IsPart text part rest = IsPart part × (text ≡ part ++ (line_end ++ rest))

-- the text stops within such bytes and CR LF: more of it would make them whole
abbrev pub MayHave : (List ℕ → Type 0) → List ℕ → Type 0
MayHave IsPart text = (more : List ℕ) × (0 < length more) × ((part : List ℕ) × HasPart IsPart (text ++ more) part [])

-- whatever follows, the text does not begin with such bytes and CR LF
abbrev pub NeverHas : (List ℕ → Type 0) → List ℕ → Type 0
NeverHas IsPart text = (more part rest : List ℕ) → HasPart IsPart (text ++ more) part rest → ⊥

-- a chunk: the digits of its size, and its bytes
pub record Chunk : Type 0 where
  pub digits : List ℕ
  pub payload : List ℕ

-- the size is that of the bytes, and not 0
abbrev pub IsChunk : Chunk → Type 0
IsChunk c = IsSize c.digits × (size_of_digits c.digits ≡ length c.payload) × (0 < length c.payload)

-- a chunk as it is written
abbrev pub print_chunk : Chunk → List ℕ
print_chunk c = c.digits ++ (line_end ++ (c.payload ++ line_end))

-- chunks as they are written, one after the other
abbrev pub print_chunks : List Chunk → List ℕ
print_chunks chunks = flat_map print_chunk chunks

-- what chunks hold
abbrev pub content : List Chunk → List ℕ
content chunks = flat_map (λ c. c.payload) chunks

-- a chunk with these digits fits the room: its line, its bytes and the two line ends
abbrev pub ChunkFits : ℕ → List ℕ → Type 0
ChunkFits room digits = length digits + 2 + size_of_digits digits + 2 ≤ room

-- where chunks stop: what stands there in the text, of which only so many bytes may be read
abbrev pub StopsAt : ℕ → List ℕ → Result (List ℕ) BodyFault → Type 0
StopsAt room text (Ok none) = (digits : List ℕ) × (rest : List ℕ) × (more : List ℕ) × (HasPart IsSize text digits rest) × (size_of_digits digits ≡ 0) × ChunkFits room digits × HasPart (IsData 0) rest [] more
StopsAt room text (Err TooLong) =
    ((digits : List ℕ) × (rest : List ℕ) × (HasPart IsSize (take room text) digits rest) × (room < length digits + 2 + size_of_digits digits + 2))
    ⊎ ((room < length text) × MayHave IsSize (take room text))
StopsAt room text (Err Truncated) =
    ((length text ≤ room) × MayHave IsSize text)
    ⊎ ((digits : List ℕ) × (rest : List ℕ) × (HasPart IsSize text digits rest) × ChunkFits room digits × MayHave (IsData (size_of_digits digits)) rest)
StopsAt room text (Err BadChunk) =
    NeverHas IsSize (take room text)
    ⊎ ((digits : List ℕ) × (rest : List ℕ) × (HasPart IsSize text digits rest) × ChunkFits room digits × NeverHas (IsData (size_of_digits digits)) rest)
StopsAt room text (Err OutOfMemory) = ⊥

-- the bytes that chunks and what stops them stand for
abbrev pub joined_bytes : List ℕ → Result (List ℕ) BodyFault → Result (List ℕ) BodyFault
joined_bytes bytes (Ok none) = Ok bytes
joined_bytes bytes (Err fault) = Err fault

-- the text is a body in chunks, or fails to be one within the room, in this way
pub record IsChunked (room : ℕ) (text : List ℕ) (body : Result (List ℕ) BodyFault) : Type 0 where
  pub chunks : List Chunk
  pub rest : List ℕ
  pub stop : Result (List ℕ) BodyFault
  pub are_chunks : AllByRecursion IsChunk chunks
  pub text_is : text ≡ print_chunks chunks ++ rest
  pub fits : length (print_chunks chunks) ≤ room
  pub stops : StopsAt (room - length (print_chunks chunks)) rest stop
  pub body_is : body ≡ joined_bytes (content chunks) stop

-- the first bytes of the text are whole chunks, which hold these bytes
pub record HasChunks (text : List ℕ) (at : ℕ) (body : List ℕ) : Type 0 where
  pub chunks : List Chunk
  pub are_chunks : AllByRecursion IsChunk chunks
  pub text_is : take at text ≡ print_chunks chunks
  pub body_is : body ≡ content chunks
