-- What a read of a source in memory hands out, over plain lists: for `MemorySource::read_some`.
use Rattle.std.proofs.Common.{◌≡◌, ℕ, ◌+◌, ◌-◌, ◌<◌, ◌≤◌, ◌⊎◌, zero, suc, max, refl, replicate, length, take, drop, List, [], ◌∷◌, ◌++◌, arith, sym, ap, ◌∙◌, min, length-drop, take-append-drop, inl, inr}
use Rattle.std.proofs.lemmas.{List.take_at, List.drop-drop, List.drop_all, Bool.cases_lt}
use Rattle.base_device.specs.{Memory.next_piece, Memory.reads_of, declared.limits.TheConstants.MOST_ROOM}

-- the copied bytes at the front of the room, and the rest, are what was left
pub handed_front : (xs copied out : List ℕ) (place n : ℕ) → copied ≡ take (place + n - place) (drop place xs) → length copied ≡ n
    → drop place xs ≡ take n (copied ++ drop n out) ++ drop (place + n) xs
handed_front xs copied out place n e len =
    let count : place + n - place ≡ n = omega arith in
    let front : take n (copied ++ drop n out) ≡ take n (drop place xs) = take_at copied (drop n out) n len ∙ e ∙ ap (λ k. take k (drop place xs)) count in
    let whole : take n (drop place xs) ++ drop n (drop place xs) ≡ drop place xs = take-append-drop n (drop place xs) in
    sym whole ∙ ap (λ ys. ys ++ drop n (drop place xs)) (sym front) ∙ ap (λ ys. take n (copied ++ drop n out) ++ ys) (drop-drop n place xs)

-- a read with room hands out nothing only where nothing is left
pub none_handed : (pieces : List ℕ) (left room : ℕ) → 0 < room → min (min left room) (next_piece pieces left) ≡ 0 → left ≡ 0
none_handed [] left room h e = omega arith
none_handed (piece ∷ pieces) left room h e = omega arith

pub rest_empty : (xs : List ℕ) (place n : ℕ) → length (drop place xs) ≡ 0 → drop (place + n) xs ≡ []
rest_empty xs place n e = let shown : length xs - place ≡ 0 = sym (length-drop place xs) ∙ e in drop_all (place + n) xs (omega arith)

-- the piece that was read is the first of those that were to come
pub next_pieces : (ps : List ℕ) (next len : ℕ) → len ≡ length ps → drop (min (next + 1) len) ps ≡ drop 1 (drop next ps)
next_pieces ps next len e =
    let beyond : length ps ≤ next + 1 → drop (min (next + 1) len) ps ≡ drop (next + 1) ps =
    λ h. drop_all (min (next + 1) len) ps (omega arith) ∙ sym (drop_all (next + 1) ps h) in
    let within : next + 1 ≤ length ps → drop (min (next + 1) len) ps ≡ drop (next + 1) ps =
    λ h. let m : min (next + 1) len ≡ next + 1 = omega arith in ap (λ k. drop k ps) m in
    (elim (cases_lt (length ps) (next + 1)) [ inl h ↦ beyond (omega arith) | inr h ↦ within h ]) ∙ sym (drop-drop 1 next ps)

-- ---- how many reads are needed

-- fewer bytes need no more reads
reads_grow : (pieces : List ℕ) (few many : ℕ) → few ≤ many → reads_of pieces few ≤ reads_of pieces many
unfolding reads_of
reads_grow [] few many h = omega (arith, h)
reads_grow (piece ∷ pieces) zero many h = omega arith
reads_grow (piece ∷ pieces) (suc few) zero h = omega (arith, h)
reads_grow (piece ∷ pieces) (suc few) (suc many) h =
    let rest = reads_grow pieces (suc few - min (max piece 1) MOST_ROOM) (suc many - min (max piece 1) MOST_ROOM) (omega (arith, h)) in
    omega (arith, rest)

-- a read that hands out something, and was not cut short by the room, needs one less
pub fewer_reads : (pieces : List ℕ) (left room n : ℕ) → n ≡ min (min left room) (next_piece pieces left) → 0 < n → (n < room) ⊎ (MOST_ROOM ≤ room)
    → reads_of (drop 1 pieces) (left - n) < reads_of pieces left
unfolding reads_of
fewer_reads [] left room n e some (inl short) = omega (arith, e, some, short)
fewer_reads [] left room n e some (inr full) = omega (arith, e, some, full)
fewer_reads (piece ∷ pieces) zero room n e some fits = absurd (omega (arith, e, some))
fewer_reads (piece ∷ pieces) (suc left) room n e some (inl short) =
    let rest = reads_grow pieces (suc left - n) (suc left - min (max piece 1) MOST_ROOM) (omega (arith, e, some, short)) in
    omega (arith, rest)
fewer_reads (piece ∷ pieces) (suc left) room n e some (inr full) =
    let rest = reads_grow pieces (suc left - n) (suc left - min (max piece 1) MOST_ROOM) (omega (arith, e, some, full)) in
    omega (arith, rest)

none_of : (pieces : List ℕ) (left : ℕ) → reads_of pieces left ≤ 0 → left ≡ 0
unfolding reads_of
none_of [] left h = omega (arith, h)
none_of (piece ∷ pieces) zero h = refl
none_of (piece ∷ pieces) (suc left) h = absurd (omega (arith, h))

-- where one read is needed, it is for the end
pub end_alone : (pieces bytes : List ℕ) → reads_of pieces (length bytes) + 1 ≤ 1 → bytes ≡ []
unfolding reads_of
end_alone pieces [] h = refl
end_alone pieces (b ∷ bytes) h = absurd (let none = none_of pieces (length (b ∷ bytes)) (omega (arith, h)) in omega (arith, none))
