-- The chunks that a walk has passed: for `judge_chunks`.
use Rattle.std.proofs.Common.{◌≡◌, ℕ, ◌+◌, ◌-◌, ◌≤◌, List, [], ◌∷◌, ◌++◌, length, take, drop, flat_map, sym, ap, ◌∙◌, arith, append_assoc, subst, append-nil, length-append, take-append-drop, Result, Err}
use Rattle.std.proofs.lemmas.{List.take_at, List.drop_at, List.drop-drop, List.length-take-le, List.Concat.flat_map-append}
use Rattle.std.specs.List.{AllByRecursion}
use Rattle.vault_http.specs.{declared.body.BodyFault.BodyFault, declared.body.BodyFault.TheVariants.OutOfMemory, Messages.UnlessBodyMemory}
use Rattle.vault_http.specs.{Chunks.line_end, Chunks.Chunk, Chunks.IsChunk, Chunks.print_chunk, Chunks.print_chunks, Chunks.content, Chunks.joined_bytes, Chunks.StopsAt, Chunks.IsChunked, Chunks.HasChunks, Steps.IsStep}
use Rattle.vault_http.specs.declared.chunk.Step.TheVariants as step

all_push : (chunks : List Chunk) (c : Chunk) → AllByRecursion IsChunk chunks → IsChunk c → AllByRecursion IsChunk (chunks ++ c ∷ [])
all_push [] c all is = (is, tt)
all_push (b ∷ chunks) c all is = (all.0, all_push chunks c all.1 is)

flat_push : (f : Chunk → List ℕ) (chunks : List Chunk) (c : Chunk) → flat_map f (chunks ++ c ∷ []) ≡ flat_map f chunks ++ f c
flat_push f chunks c = flat_map-append f chunks (c ∷ []) ∙ ap (λ t. flat_map f chunks ++ t) (append-nil (f c))

-- the first bytes are as many as they are
so_long : (text : List ℕ) (at : ℕ) (body : List ℕ) (s : HasChunks text at body) → at ≤ length text → length (print_chunks s.chunks) ≡ at
so_long text at body s within = sym (ap length s.text_is) ∙ length-take-le at text within

pub one_chunk : (text : List ℕ) (at : ℕ) (body : List ℕ) (room start n : ℕ) → HasChunks text at body → at ≤ length text → at ≤ room
    → IsStep (drop at text) (room - at) (step.Chunk start n)
    → HasChunks text (at + start + n + 2) (body ++ take n (drop (at + start) text)) × (at + start + n + 2 ≤ length text) × (at + start + n + 2 ≤ room)
one_chunk text at body room start n s within fits h =
    let c = h.0 in
    let rest = h.1 in
    let line_and_data : length (print_chunk c) ≡ length c.digits + length (line_end ++ (c.payload ++ line_end)) = length-append c.digits (line_end ++ (c.payload ++ line_end)) in
    let data_and_end : length (c.payload ++ line_end) ≡ length c.payload + 2 = length-append c.payload line_end in
    let printed : length (print_chunk c) ≡ start + n + 2 = omega (arith, line_and_data, data_and_end, h.5, h.6) in
    let before = print_chunks s.chunks in
    let long : length before ≡ at = so_long text at body s within in
    let all : text ≡ (before ++ print_chunk c) ++ rest =
    sym (take-append-drop at text) ∙ ap (λ t. t ++ drop at text) s.text_is ∙ ap (λ t. before ++ t) h.3 ∙ sym (append_assoc before (print_chunk c) rest) in
    let count : length (before ++ print_chunk c) ≡ at + start + n + 2 = length-append before (print_chunk c) ∙ omega (arith, long, printed) in
    let front : take (at + start + n + 2) text ≡ before ++ print_chunk c = ap (take (at + start + n + 2)) all ∙ take_at (before ++ print_chunk c) rest (at + start + n + 2) count in
    let size_line = c.digits ++ line_end in
    let line_long : length size_line ≡ start = length-append c.digits line_end ∙ h.5 in
    let tail : drop at text ≡ size_line ++ (c.payload ++ (line_end ++ rest)) =
    h.3 ∙ append_assoc c.digits (line_end ++ (c.payload ++ line_end)) rest ∙ ap (λ t. c.digits ++ (line_end ++ t)) (append_assoc c.payload line_end rest)
    ∙ sym (append_assoc c.digits line_end (c.payload ++ (line_end ++ rest))) in
    let held : drop (at + start) text ≡ c.payload ++ (line_end ++ rest) =
    sym (drop-drop start at text) ∙ ap (drop start) tail ∙ drop_at size_line (c.payload ++ (line_end ++ rest)) start line_long in
    let payload : take n (drop (at + start) text) ≡ c.payload = ap (take n) held ∙ take_at c.payload (line_end ++ rest) n h.6 in
    let whole_long : length text ≡ length (before ++ print_chunk c) + length rest = ap length all ∙ length-append (before ++ print_chunk c) rest in (
      record {
        chunks = s.chunks ++ c ∷ [];
        are_chunks = all_push s.chunks c s.are_chunks h.2;
        text_is = front ∙ sym (flat_push print_chunk s.chunks c);
        body_is = ap (λ b. b ++ take n (drop (at + start) text)) s.body_is ∙ ap (λ p. content s.chunks ++ p) payload ∙ sym (flat_push (λ d. d.payload) s.chunks c);
      },
      omega (arith, whole_long, count),
      omega (arith, h.4, printed, fits),
    )

pub chunks_end : (text : List ℕ) (at : ℕ) (body : List ℕ) (room : ℕ) (stop answer : Result (List ℕ) BodyFault) (more : List ℕ) → HasChunks text at body → at ≤ length text → at ≤ room
    → StopsAt (room - at) (drop at text ++ more) stop → answer ≡ joined_bytes body stop → IsChunked room (text ++ more) answer
chunks_end text at body room stop answer more s within fits stops is =
    let long = so_long text at body s within in
    record {
      chunks = s.chunks;
      rest = drop at text ++ more;
      stop = stop;
      are_chunks = s.are_chunks;
      text_is = ap (λ t. t ++ more) (sym (take-append-drop at text) ∙ ap (λ t. t ++ drop at text) s.text_is) ∙ append_assoc (print_chunks s.chunks) (drop at text) more;
      fits = omega (arith, long, fits);
      stops = subst (λ k. StopsAt (room - k) (drop at text ++ more) stop) (sym long) stops;
      body_is = is ∙ ap (λ b. joined_bytes b stop) s.body_is;
    }

pub unless_fault : (fault : BodyFault) (P : Type 0) → P → UnlessBodyMemory {A = List ℕ} (Err fault) P
unless_fault OutOfMemory P p = tt
unless_fault _ P p = p
