-- A body in chunks is whole or cut off, and never both; and where it is whole, it ends with an empty line.
use Rattle.std.proofs.Common.{◌≡◌, ℕ, ◌+◌, ◌-◌, ◌≤◌, ◌⊎◌, inl, inr, List, [], ◌∷◌, ◌++◌, length, drop, refl, sym, ap, ◌∙◌, arith, append_assoc, subst, length-append, Result, Ok, Err}
use Rattle.std.proofs.lemmas.List.{drop_at}
use Rattle.std.specs.List.{AllByRecursion}
use Rattle.vault_http.specs.{declared.body.BodyFault.BodyFault, declared.body.BodyFault.TheVariants.Truncated}
use Rattle.vault_http.specs.{Chunks.line_end, Chunks.IsSize, Chunks.IsData, Chunks.size_of_digits, Chunks.HasPart, Chunks.MayHave, Chunks.Chunk, Chunks.IsChunk, Chunks.print_chunk, Chunks.print_chunks, Chunks.content, Chunks.joined_bytes, Chunks.StopsAt, Chunks.IsChunked}
use Rattle.vault_http.specs.{Framing.is_digit}
use Rattle.vault_http.proofs.Runs.{same_run}

-- ---- whole or cut off

-- one text has one size at its front
size_once : (p q r s : List ℕ) → IsSize p → IsSize q → p ++ (line_end ++ r) ≡ q ++ (line_end ++ s) → (p ≡ q) × (r ≡ s)
size_once p q r s is_p is_q e =
    let same = same_run (is_digit 16) p q 13 (10 ∷ r) 13 (10 ∷ s) is_p.2 is_q.2 refl refl e in
    (same.0, ap (drop 2) same.1)

-- a chunk stops within the text
abbrev IsOpen : List ℕ → Type 0
IsOpen text = MayHave IsSize text ⊎ ((digits : List ℕ) × (rest : List ℕ) × (HasPart IsSize text digits rest) × MayHave (IsData (size_of_digits digits)) rest)

-- a chunk is all there, whatever its bytes are
abbrev IsFull : List ℕ → Type 0
IsFull text = (digits : List ℕ) × (rest : List ℕ) × (HasPart IsSize text digits rest) × (size_of_digits digits + 2 ≤ length rest)

-- the last chunk stands there
abbrev IsLast : List ℕ → Type 0
IsLast text = (digits : List ℕ) × (rest : List ℕ) × (after : List ℕ) × (HasPart IsSize text digits rest) × (size_of_digits digits ≡ 0) × HasPart (IsData 0) rest [] after

not_both : (text : List ℕ) → IsOpen text → IsFull text → ⊥
not_both text (inl may) (digits, rest, has, long) =
    let e : digits ++ (line_end ++ (rest ++ may.0)) ≡ may.2.0 ++ (line_end ++ []) = sym (ap (λ t. t ++ may.0) has.1 ∙ append_assoc digits (line_end ++ rest) may.0) ∙ may.2.1.1 in
    let same = size_once digits may.2.0 (rest ++ may.0) [] has.0 may.2.1.0 e in
    omega (arith, may.1, ap length same.1, length-append rest may.0)
not_both text (inr (first, behind, here, may)) (digits, rest, has, long) =
    let same = size_once first digits behind rest here.0 has.0 (sym here.1 ∙ has.1) in
    omega (arith, may.1, ap length may.2.1.1, length-append behind may.0, length-append may.2.0 (line_end ++ []), may.2.1.0, ap size_of_digits same.0, ap length same.1, long)

-- a chunk and what follows it, as its size and what follows that
chunk_text : (c : Chunk) (rest : List ℕ) → print_chunk c ++ rest ≡ c.digits ++ (line_end ++ (c.payload ++ (line_end ++ rest)))
chunk_text c rest =
    append_assoc c.digits (line_end ++ (c.payload ++ line_end)) rest ∙ ap (λ t. c.digits ++ (line_end ++ t)) (append_assoc c.payload line_end rest)

chunk_full : (c : Chunk) (rest : List ℕ) → IsChunk c → IsFull (print_chunk c ++ rest)
chunk_full c rest is =
    let behind = c.payload ++ (line_end ++ rest) in (
      c.digits,
      behind,
      (is.0, chunk_text c rest),
      omega (arith, is.1, length-append c.payload (line_end ++ rest)),
    )

last_full : (text : List ℕ) → IsLast text → IsFull text
last_full text (digits, rest, after, has, zero, data_part) = (digits, rest, has, omega (arith, zero, ap length data_part.1))

last_once : (text : List ℕ) → IsLast text → (c : Chunk) (rest : List ℕ) → IsChunk c → text ≡ print_chunk c ++ rest → ⊥
last_once text (digits, rest, after, has, zero, data_part) c left is e =
    let same = size_once digits c.digits rest (c.payload ++ (line_end ++ left)) has.0 is.0 (sym has.1 ∙ e ∙ chunk_text c left) in
    omega (arith, zero, ap size_of_digits same.0, is.1, is.2)

-- one text has one chunk at its front
chunk_once : (c d : Chunk) (r q : List ℕ) → IsChunk c → IsChunk d → print_chunk c ++ r ≡ print_chunk d ++ q → r ≡ q
chunk_once c d r q is_c is_d e =
    let same = size_once c.digits d.digits (c.payload ++ (line_end ++ r)) (d.payload ++ (line_end ++ q)) is_c.0 is_d.0 (sym (chunk_text c r) ∙ e ∙ chunk_text d q) in
    let long : length c.payload ≡ length d.payload = sym is_c.1 ∙ ap size_of_digits same.0 ∙ is_d.1 in
    let behind : line_end ++ r ≡ line_end ++ q =
    sym (drop_at c.payload (line_end ++ r) (length c.payload) refl) ∙ ap (drop (length c.payload)) same.1 ∙ drop_at d.payload (line_end ++ q) (length c.payload) (sym long) in
    ap (drop 2) behind

apart : (cs ds : List Chunk) (r q : List ℕ) → AllByRecursion IsChunk cs → AllByRecursion IsChunk ds → print_chunks cs ++ r ≡ print_chunks ds ++ q → IsOpen r → IsLast q → ⊥
apart [] [] r q are_c are_d e open_r last_q = not_both q (subst IsOpen e open_r) (last_full q last_q)
apart [] (d ∷ ds) r q are_c are_d e open_r last_q =
    not_both r open_r (subst IsFull (sym (e ∙ append_assoc (print_chunk d) (print_chunks ds) q)) (chunk_full d (print_chunks ds ++ q) are_d.0))
apart (c ∷ cs) [] r q are_c are_d e open_r last_q = last_once q last_q c (print_chunks cs ++ r) are_c.0 (sym e ∙ append_assoc (print_chunk c) (print_chunks cs) r)
apart (c ∷ cs) (d ∷ ds) r q are_c are_d e open_r last_q =
    apart cs ds r q are_c.1 are_d.1
    (chunk_once c d (print_chunks cs ++ r) (print_chunks ds ++ q) are_c.0 are_d.0
    (sym (append_assoc (print_chunk c) (print_chunks cs) r) ∙ e ∙ append_assoc (print_chunk d) (print_chunks ds) q)) open_r last_q

cut_open : (room : ℕ) (bytes text : List ℕ) (stop : Result (List ℕ) BodyFault) → Err Truncated ≡ joined_bytes bytes stop → StopsAt room text stop → IsOpen text
cut_open room bytes text (Ok none) e stops = absurd (cc (e))
cut_open room bytes text (Err Truncated) e (inl s) = inl s.1
cut_open room bytes text (Err Truncated) e (inr (digits, rest, has, fits, may)) = inr (digits, rest, has, may)
cut_open room bytes text (Err _) e stops = absurd (cc (e))

whole_last : (room : ℕ) (bytes body text : List ℕ) (stop : Result (List ℕ) BodyFault) → Ok body ≡ joined_bytes bytes stop → StopsAt room text stop
    → (none : List ℕ) × (stop ≡ Ok none) × StopsAt room text (Ok none)
whole_last room bytes body text (Ok none) e stops = (none, refl, stops)
whole_last room bytes body text (Err fault) e stops = absurd (cc (e))

pub never_both : (room : ℕ) (text body : List ℕ) → IsChunked room text (Err Truncated) → IsChunked room text (Ok body) → ⊥
never_both room text body a b =
    let l = whole_last (room - length (print_chunks b.chunks)) (content b.chunks) body b.rest b.stop b.body_is b.stops in
    let s = l.2 in
    apart a.chunks b.chunks a.rest b.rest a.are_chunks b.are_chunks (sym a.text_is ∙ b.text_is)
    (cut_open (room - length (print_chunks a.chunks)) (content a.chunks) a.rest a.stop a.body_is a.stops)
    (s.0, s.1, s.2, s.3, s.4, s.6)
