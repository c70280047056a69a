-- A body after its head, where only so many bytes may be read (RFC 9112, section 6.3).
use Rattle.std.specs.Prelude.{◌≡◌, ℕ, ◌≤◌, List, [], length, take, nat_lt, if◌then◌else◌, Result, Ok, Err}
use Rattle.vault_http.specs.{declared.body.BodyFault.BodyFault, declared.body.BodyFault.TheVariants.TooLong, declared.body.BodyFault.TheVariants.Truncated, declared.body.Partial.Partial, declared.framing.Framing.Framing}
use Rattle.vault_http.specs.{declared.framing.Framing.TheVariants.Empty, declared.framing.Framing.TheVariants.Counted, declared.framing.Framing.TheVariants.Chunked, declared.framing.Framing.TheVariants.ToEnd}
use Rattle.vault_http.specs.{Chunks.IsChunked, Chunks.HasChunks}
use Rattle.vault_http.specs.declared.body.Partial.TheVariants as partial

-- a body of n bytes: whether they fit is judged before whether they are there
abbrev pub counted_body : ℕ → ℕ → List ℕ → Result (List ℕ) BodyFault
counted_body n room rest = if nat_lt room n then Err TooLong else (if nat_lt (length rest) n then Err Truncated else Ok (take n rest))

-- all that there is
abbrev pub open_body : ℕ → List ℕ → Result (List ℕ) BodyFault
open_body room rest = if nat_lt room (length rest) then Err TooLong else Ok rest

-- what the bytes after the head are as a body
abbrev pub IsMessageBody : Framing → ℕ → List ℕ → Result (List ℕ) BodyFault → Type 0
IsMessageBody Empty room rest body = body ≡ Ok []
IsMessageBody (Counted n) room rest body = body ≡ counted_body n room rest
IsMessageBody Chunked room rest body = IsChunked room rest body
IsMessageBody ToEnd room rest body = body ≡ open_body room rest

-- a whole body stands after the head
abbrev pub HasBody : Framing → ℕ → List ℕ → Type 0
HasBody framed room rest = (body : List ℕ) × IsMessageBody framed room rest (Ok body)

-- the body is not all there: it would be cut off, were these bytes the last; one to the end of the input never is before it
abbrev pub BodyIsCutOff : Framing → ℕ → List ℕ → Type 0
BodyIsCutOff Empty room rest = ⊥
BodyIsCutOff (Counted n) room rest = counted_body n room rest ≡ Err Truncated
BodyIsCutOff Chunked room rest = IsChunked room rest (Err Truncated)
BodyIsCutOff ToEnd room rest = length rest ≤ room

-- how the body is framed that is known in part
abbrev pub framing_of : Partial → Framing
framing_of partial.Empty = Empty
framing_of (partial.Counted n) = Counted n
framing_of (partial.Chunked at body) = Chunked
framing_of partial.ToEnd = ToEnd

-- what is known of the body is so of these bytes
abbrev pub IsPartOf : Partial → ℕ → List ℕ → Type 0
IsPartOf partial.Empty room rest = Unit {0}
IsPartOf (partial.Counted n) room rest = Unit {0}
IsPartOf (partial.Chunked at body) room rest = (at ≤ length rest) × (at ≤ room) × HasChunks rest at body.items
IsPartOf partial.ToEnd room rest = Unit {0}
