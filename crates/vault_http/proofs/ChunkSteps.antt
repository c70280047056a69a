-- What stands after the line of a size: for `sized_step` and `next_step`.
use Rattle.std.proofs.Common.{◌≡◌, ℕ, ◌+◌, ◌-◌, ◌<◌, ◌≤◌, ◌⊎◌, inl, inr, List, [], ◌∷◌, ◌++◌, length, take, drop, replicate, refl, sym, ap, ◌∙◌, arith, append_assoc, subst, append-nil, length-append, length-drop, take-append-drop, Ok, Err}
use Rattle.std.proofs.lemmas.List.{drop_at, drop-drop, length-take-le, nil_from_length, length-replicate}
use Rattle.std.proofs.Math.Seq.{take-append-add}
use Rattle.vault_http.proofs.Fronts.{take-onward}
use Rattle.vault_http.specs.declared.body.BodyFault.TheVariants.{TooLong, BadChunk}
use Rattle.vault_http.specs.declared.chunk.Ending.TheVariants as ending
use Rattle.vault_http.specs.declared.chunk.Line.TheVariants as line
use Rattle.vault_http.specs.declared.chunk.Step.TheVariants as step
use Rattle.vault_http.specs.Chunks.{line_end, IsSize, IsData, size_of_digits, MayHave, NeverHas, Chunk, print_chunk, ChunkFits, StopsAt}
use Rattle.vault_http.specs.Steps.{IsEnding, IsSizeLine, IsStep}

-- a text begins with the line of a size
pub record HasSize (text : List ℕ) (d v : ℕ) : Type 0 where
  pub part : List ℕ
  pub rest : List ℕ
  pub is_size : IsSize part
  pub many : length part ≡ d
  pub value : v ≡ size_of_digits part
  pub text_is : text ≡ part ++ (line_end ++ rest)
  pub rest_is : rest ≡ drop (d + 2) text

behind : (part rest : List ℕ) (d : ℕ) → length part ≡ d → drop (d + 2) (part ++ (line_end ++ rest)) ≡ rest
behind part rest d many =
    sym (drop-drop 2 d (part ++ (line_end ++ rest))) ∙ ap (drop 2) (drop_at part (line_end ++ rest) d many)

pub size_of : (text : List ℕ) (room d v : ℕ) → IsSizeLine (take room text) (line.Size d v) → HasSize text d v
size_of text room d v is =
    let front = take room text in
    let many : length (take d front) ≡ d = length-take-le d front (omega (arith, is.2)) in
    let split : text ≡ take d front ++ (line_end ++ (drop (d + 2) front ++ drop room text)) =
    sym (take-append-drop room text) ∙ ap (λ t. t ++ drop room text) is.0.1 ∙ append_assoc (take d front) (line_end ++ drop (d + 2) front) (drop room text) in
    record {
      part = take d front;
      rest = drop (d + 2) front ++ drop room text;
      is_size = is.0.0;
      many = many;
      value = is.1;
      text_is = split;
      rest_is = sym (ap (drop (d + 2)) split ∙ behind (take d front) (drop (d + 2) front ++ drop room text) d many);
    }

-- a text that goes on
pub onward : (text part rest more : List ℕ) → text ≡ part ++ (line_end ++ rest) → text ++ more ≡ part ++ (line_end ++ (rest ++ more))
onward text part rest more e = ap (λ t. t ++ more) e ∙ append_assoc part (line_end ++ rest) more

-- the line stands within the room
within_room : (part rest : List ℕ) (d room : ℕ) → length part ≡ d → d + 2 ≤ room → take room (part ++ (line_end ++ rest)) ≡ part ++ (line_end ++ take (room - (d + 2)) rest)
within_room part rest d room many fits =
    let line_bytes = part ++ line_end in
    let long : length line_bytes ≡ d + 2 = length-append part line_end ∙ ap (λ k. k + 2) many in
    let count : room ≡ length line_bytes + (room - (d + 2)) = omega (arith, long) in
    ap (take room) (sym (append_assoc part line_end rest)) ∙ ap (λ k. take k (line_bytes ++ rest)) count
    ∙ take-append-add line_bytes rest (room - (d + 2)) ∙ append_assoc part line_end (take (room - (d + 2)) rest)

pub too_long : (text : List ℕ) (room d v : ℕ) → HasSize text d v → d + 2 ≤ room → room < d + 2 + v + 2 → (more : List ℕ) → StopsAt room (text ++ more) (Err TooLong)
too_long text room d v h fits over more =
    let rest = h.rest ++ more in
    inl (
      h.part,
      take (room - (d + 2)) rest,
      (h.is_size, ap (take room) (onward text h.part h.rest more h.text_is) ∙ within_room h.part rest d room h.many fits),
      omega (arith, over, h.many, h.value),
    )

fits_room : (text : List ℕ) (room d v : ℕ) (h : HasSize text d v) → d + 2 + v + 2 ≤ room → ChunkFits room h.part
fits_room text room d v h fits = omega (arith, fits, h.many, h.value)

-- the bytes of the chunk are not all there
may_have_short : (rest : List ℕ) (n : ℕ) → length rest < n → MayHave (IsData n) rest
may_have_short rest n short =
    let gap = replicate (n - length rest) 0 in
    let long : length gap ≡ n - length rest = length-replicate (n - length rest) 0 in
    let all : length (rest ++ gap) ≡ n = length-append rest gap ∙ omega (arith, long, short) in
    let some : 0 < length (gap ++ line_end) = omega (arith, length-append gap line_end) in
    (gap ++ line_end, some, (rest ++ gap, (all, sym (append_assoc rest gap line_end))))

pub short : (text : List ℕ) (room d v : ℕ) → HasSize text d v → d + 2 + v + 2 ≤ room → length text < d + 2 + v → IsStep text room step.Open
short text room d v h fits few =
    let long : length text ≡ length h.part + length (line_end ++ h.rest) = ap length h.text_is ∙ length-append h.part (line_end ++ h.rest) in
    let less : length h.rest < v = omega (arith, long, few, h.many) in
    (omega (arith, few, fits), inr (h.part, h.rest, (h.is_size, h.text_is), fits_room text room d v h fits, subst (λ n. MayHave (IsData n) h.rest) h.value (may_have_short h.rest v less)))

-- the rest as the bytes of the chunk and what comes after them
data_split : (rest : List ℕ) (v : ℕ) → v ≤ length rest → (length (take v rest) ≡ v) × (rest ≡ take v rest ++ drop v rest)
data_split rest v fits = (length-take-le v rest fits, sym (take-append-drop v rest))

-- what comes after them in the text
data_end : (text : List ℕ) (d v : ℕ) (h : HasSize text d v) → drop (d + 2 + v) text ≡ drop v h.rest
data_end text d v h = sym (drop-drop v (d + 2) text) ∙ ap (drop v) (sym h.rest_is)

enough : (text : List ℕ) (d v : ℕ) (h : HasSize text d v) → d + 2 + v ≤ length text → v ≤ length h.rest
enough text d v h all =
    let long : length text ≡ length h.part + length (line_end ++ h.rest) = ap length h.text_is ∙ length-append h.part (line_end ++ h.rest) in
    omega (arith, long, all, h.many)

never_ends : (rest : List ℕ) (v : ℕ) → v ≤ length rest → IsEnding (drop v rest) ending.Bad → (more : List ℕ) → NeverHas (IsData v) (rest ++ more)
never_ends rest v fits bad more after part left has =
    let d = data_split rest v fits in
    let whole : part ++ (line_end ++ left) ≡ take v rest ++ (drop v rest ++ (more ++ after)) =
    sym has.1 ∙ append_assoc rest more after ∙ ap (λ r. r ++ (more ++ after)) d.1 ∙ append_assoc (take v rest) (drop v rest) (more ++ after) in
    let here : line_end ++ left ≡ drop v rest ++ (more ++ after) =
    sym (drop_at part (line_end ++ left) v has.0) ∙ ap (drop v) whole ∙ drop_at (take v rest) (drop v rest ++ (more ++ after)) v d.0 in
    bad (more ++ after) left (sym here)

pub bad_end : (text : List ℕ) (room d v : ℕ) → HasSize text d v → d + 2 + v + 2 ≤ room → d + 2 + v ≤ length text → IsEnding (drop (d + 2 + v) text) ending.Bad
    → (more : List ℕ) → StopsAt room (text ++ more) (Err BadChunk)
bad_end text room d v h fits all bad more =
    let bad_rest = subst (λ t. IsEnding t ending.Bad) (data_end text d v h) bad in
    inr (
      h.part,
      h.rest ++ more,
      (h.is_size, onward text h.part h.rest more h.text_is),
      fits_room text room d v h fits,
      subst (λ n. NeverHas (IsData n) (h.rest ++ more)) h.value (never_ends h.rest v (enough text d v h all) bad_rest more),
    )

may_end : (rest : List ℕ) (v : ℕ) → v ≤ length rest → (drop v rest ≡ []) ⊎ (drop v rest ≡ 13 ∷ []) → MayHave (IsData v) rest
may_end rest v fits (inl e) =
    let d = data_split rest v fits in
    (line_end, omega arith, (take v rest, (d.0, ap (λ r. r ++ line_end) (d.1 ∙ ap (λ t. take v rest ++ t) e ∙ append-nil (take v rest)))))
may_end rest v fits (inr e) =
    let d = data_split rest v fits in
    (10 ∷ [], omega arith, (take v rest, (d.0, ap (λ r. r ++ 10 ∷ []) (d.1 ∙ ap (λ t. take v rest ++ t) e) ∙ append_assoc (take v rest) (13 ∷ []) (10 ∷ []))))

few_left : (rest : List ℕ) (v : ℕ) → (drop v rest ≡ []) ⊎ (drop v rest ≡ 13 ∷ []) → length rest < v + 2
few_left rest v (inl e) = omega (arith, sym (length-drop v rest) ∙ ap length e)
few_left rest v (inr e) = omega (arith, sym (length-drop v rest) ∙ ap length e)

pub open_end : (text : List ℕ) (room d v : ℕ) → HasSize text d v → d + 2 + v + 2 ≤ room → d + 2 + v ≤ length text → IsEnding (drop (d + 2 + v) text) ending.Open
    → IsStep text room step.Open
open_end text room d v h fits all open_rest =
    let here = subst (λ t. IsEnding t ending.Open) (data_end text d v h) open_rest in
    let long : length text ≡ length h.part + length (line_end ++ h.rest) = ap length h.text_is ∙ length-append h.part (line_end ++ h.rest) in (
      omega (arith, long, few_left h.rest v here, h.many, fits),
      inr (h.part, h.rest, (h.is_size, h.text_is), fits_room text room d v h fits, subst (λ n. MayHave (IsData n) h.rest) h.value (may_end h.rest v (enough text d v h all) here)),
    )

-- the whole chunk in the text
chunk_text : (text : List ℕ) (d v : ℕ) (h : HasSize text d v) → d + 2 + v ≤ length text → IsEnding (drop (d + 2 + v) text) ending.Whole
    → h.rest ≡ take v h.rest ++ (line_end ++ drop 2 (drop v h.rest))
chunk_text text d v h all whole =
    let here = subst (λ t. IsEnding t ending.Whole) (data_end text d v h) whole in
    (data_split h.rest v (enough text d v h all)).1 ∙ ap (λ t. take v h.rest ++ t) here

pub last_end : (text : List ℕ) (room d v : ℕ) → HasSize text d v → d + 2 + v + 2 ≤ room → d + 2 + v ≤ length text → v ≡ 0 → IsEnding (drop (d + 2 + v) text) ending.Whole
    → (more : List ℕ) → StopsAt room (text ++ more) (Ok [])
last_end text room d v h fits all zero whole more =
    let e = chunk_text text d v h all whole in
    let none : take v h.rest ≡ [] = nil_from_length (take v h.rest) ((data_split h.rest v (enough text d v h all)).0 ∙ zero) in
    let after = drop 2 (drop v h.rest) in
    let at : h.rest ≡ line_end ++ after = e ∙ ap (λ t. t ++ (line_end ++ after)) none in (
      h.part,
      h.rest ++ more,
      after ++ more,
      (h.is_size, onward text h.part h.rest more h.text_is),
      sym h.value ∙ zero,
      fits_room text room d v h fits,
      (refl, ap (λ t. t ++ more) at),
    )

pub whole_chunk : (text : List ℕ) (room d v : ℕ) → HasSize text d v → d + 2 + v + 2 ≤ room → d + 2 + v ≤ length text → 0 < v → IsEnding (drop (d + 2 + v) text) ending.Whole
    → IsStep text room (step.Chunk (d + 2) v)
whole_chunk text room d v h fits all some whole =
    let e = chunk_text text d v h all whole in
    let payload = take v h.rest in
    let many : length payload ≡ v = (data_split h.rest v (enough text d v h all)).0 in
    let after = drop 2 (drop v h.rest) in
    let c : Chunk = record { digits = h.part; payload = payload } in
    let text_is : text ≡ print_chunk c ++ after =
    h.text_is ∙ ap (λ t. h.part ++ (line_end ++ t)) (e ∙ sym (append_assoc payload line_end after)) ∙ sym (append_assoc h.part (line_end ++ (payload ++ line_end)) after) in
    let long : length (print_chunk c) ≡ length h.part + length (line_end ++ (payload ++ line_end)) = length-append h.part (line_end ++ (payload ++ line_end)) in
    let long_data : length (payload ++ line_end) ≡ length payload + 2 = length-append payload line_end in
    (c, after, (h.is_size, sym h.value ∙ sym many, omega (arith, many, some)), text_is, omega (arith, long, long_data, many, h.many, fits), omega (arith, h.many), many)

-- a front that never begins with a line, in a text that goes on
pub bad_front : (text : List ℕ) (room : ℕ) → NeverHas IsSize (take room text) → (more : List ℕ) → StopsAt room (text ++ more) (Err BadChunk)
bad_front text room never more =
    inl (λ after part rest has. never (take (room - length text) more ++ after) part rest (has.0, sym (take-onward room text more after) ∙ has.1))
