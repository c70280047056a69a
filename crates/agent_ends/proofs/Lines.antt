-- The lines of a file of ends.
use Rattle.std.proofs.Common.{◌≡◌, ℕ, ◌+◌, ◌<◌, ◌≤◌, ◌==◌, Bool, true, false, not, List, [], ◌∷◌, ◌++◌, Option, Some, None, append_assoc, append-nil, cond, length, take, get_or, refl, sym, ap, ◌∙◌}
use Rattle.std.specs.Prelude.{option_to_list}
use Rattle.std.proofs.lemmas.Bool.{and_parts, cond-false}
use Rattle.std.proofs.lemmas.List.{flat_map_more, take_all, take_more}
use Rattle.std.specs.Cmp.Lexicographic.{bytes_decides}
use Rattle.std.specs.List.{flat_map, list_all, onto_first, slice_split}
use Rattle.base_words.specs.{Laws.Lacks, Pieces.pieces}
use Rattle.agent_standing.specs.declared.ends.KnownEnd.{KnownEnd}
use Rattle.agent_standing.specs.Ends.{EndLineLaw, EndWrittenIsRead, IsKnownEnd, end_of_text, end_text, in_boot}
use Rattle.agent_ends.specs.Laws.{ReadBackLaw}
use Rattle.agent_ends.specs.Ends.{ends_in, ends_in_line, ends_text, line_of_end}

-- ---- as they are written

pub text_none : ends_text [] ≡ []
unfolding ends_text
text_none = refl

pub text_more : (ends : List KnownEnd) (i : ℕ) (k : KnownEnd) → i < length ends → k ≡ get_or ends i k → ends_text (take (i + 1) ends) ≡ (ends_text (take i ends) ++ end_text k) ++ 10 ∷ []
unfolding ends_text
text_more ends i k h read =
    ap (flat_map line_of_end) (take_more ends i k h ∙ ap (λ (x : KnownEnd). take i ends ++ x ∷ []) (sym read))
    ∙ sym (flat_map_more line_of_end [] (take i ends) k)
    ∙ sym (append_assoc (flat_map line_of_end (take i ends)) (end_text k) (10 ∷ []))

pub text_all : (ends : List KnownEnd) (i : ℕ) → length ends ≤ i → ends_text (take i ends) ≡ ends_text ends
text_all ends i past = ap ends_text (take_all i ends past)

-- ---- as they are read

pub read_cut : (boot text line after : List ℕ) → pieces 10 text ≡ line ∷ pieces 10 after → ends_in boot text ≡ ends_in_line boot line ++ ends_in boot after
unfolding ends_in
read_cut boot text line after cut = ap (flat_map (ends_in_line boot)) cut

-- ---- read back

not_same : (b : Bool) → not b ≡ true → b ≡ false
not_same true e = cc
not_same false e = refl

-- a line is the first piece of what begins with it
line_first : (line rest : List ℕ) → Lacks 10 line → pieces 10 (line ++ 10 ∷ rest) ≡ line ∷ pieces 10 rest
unfolding pieces
line_first [] rest lacks = refl
line_first (x ∷ xs) rest lacks =
    let parts = and_parts (not (x == 10)) (list_all (λ y. not (y == 10)) xs) lacks in
    let p : ℕ → Bool = λ c. c == 10 in
    cond-false (x == 10) ([] ∷ slice_split p (xs ++ 10 ∷ rest)) (onto_first x (slice_split p (xs ++ 10 ∷ rest))) (not_same (x == 10) parts.0)
    ∙ ap (onto_first x) (line_first xs rest parts.1)

one_back : EndWrittenIsRead → (boot : List ℕ) (k : KnownEnd) → IsKnownEnd k → k.boot ≡ boot → ends_in_line boot (end_text k) ≡ k ∷ []
one_back found boot k is same =
    ap (λ (o : Option KnownEnd). option_to_list (in_boot boot o)) (found k is)
    ∙ ap (λ (b : Bool). option_to_list (cond b (Some k) None)) ((bytes_decides k.boot boot).1 same)

nothing_back : (boot : List ℕ) → ends_in boot (ends_text []) ≡ []
unfolding ends_in ends_text pieces end_of_text
nothing_back boot = refl

pub read_back : EndWrittenIsRead → EndLineLaw → ReadBackLaw
unfolding ends_text
read_back found line boot [] all = nothing_back boot
read_back found line boot (k ∷ ks) all =
    let text : List ℕ = ends_text ks in
    ap (ends_in boot) (append_assoc (end_text k) (10 ∷ []) text)
    ∙ read_cut boot (end_text k ++ 10 ∷ text) (end_text k) text (line_first (end_text k) text (line k all.0))
    ∙ ap (λ (l : List KnownEnd). l ++ ends_in boot text) (one_back found boot k all.0 all.1)
    ∙ ap (λ (l : List KnownEnd). k ∷ l) (read_back found line boot ks all.2)
