-- What files of records stand for.
use Rattle.std.proofs.Common.{◌≡◌, ◌≢◌, inl, inr, ℕ, zero, suc, ◌+◌, ◌≤◌, ◌-◌, Bool, true, false, if◌then◌else◌, slice_index, ◌<◌, List, [], ◌∷◌, ◌++◌, length, take, drop, get_or, refl, sym, ◌∙◌, ap, subst, arith, append_assoc, length-append, take-append-drop}
use Rattle.std.proofs.lemmas.Bool.{cases_eq, eq-eqb}
use Rattle.std.proofs.lemmas.List.{append-nil, take_at, drop_at, drop_more, take_all, drop_all}
use Rattle.memchr.specs.Find.{Nowhere, Passes, NoneBefore, is_byte}
use Rattle.base_disk.specs.{Torn.Torn, Image.overwritten}
use Rattle.base_journal.specs.Records.{IsRecordLine, AreLines, block, blocks, at_rest, StandsFor, IsBeforeOrAfter, lines_kept, is_out, lines_taken_out}

abbrev first_of : ℕ → List ℕ → ℕ
first_of d [] = d
first_of d (x ∷ xs) = x

-- two lists that begin alike begin with the same byte, and go on alike
heads : (x y : ℕ) (xs ys : List ℕ) → x ∷ xs ≡ y ∷ ys → x ≡ y
heads x y xs ys is = ap (first_of 0) is

tails : (x y : ℕ) (xs ys : List ℕ) → x ∷ xs ≡ y ∷ ys → xs ≡ ys
tails x y xs ys is = ap (λ (l : List ℕ). drop 1 l) is

pub not_nil : (x : ℕ) (xs : List ℕ) → [] ≡ x ∷ xs → ⊥
not_nil x xs is = let long : zero ≡ suc (length xs) = ap length is in absurd (omega (arith, long))

-- a line ends at its first line feed
pub same_line : (xs ys : List ℕ) (a b : List ℕ) → IsRecordLine xs → IsRecordLine ys → xs ++ 10 ∷ a ≡ ys ++ 10 ∷ b → (xs ≡ ys) × (a ≡ b)
same_line [] [] a b p q is = (refl, tails 10 10 a b is)
same_line [] (y ∷ ys) a b p q is = absurd (q.0 (sym (heads 10 y a (ys ++ 10 ∷ b) is)))
same_line (x ∷ xs) [] a b p q is = absurd (p.0 (heads x 10 (xs ++ 10 ∷ a) b is))
same_line (x ∷ xs) (y ∷ ys) a b p q is =
    let rest = same_line xs ys a b p.1 q.1 (tails x y (xs ++ 10 ∷ a) (ys ++ 10 ∷ b) is) in
    let first = heads x y (xs ++ 10 ∷ a) (ys ++ 10 ∷ b) is in
    ((λ i. first i ∷ rest.0 i), rest.1)

pub block_then : (line rest : List ℕ) → block line ++ rest ≡ 43 ∷ (line ++ 10 ∷ rest)
block_then line rest = ap (λ (l : List ℕ). 43 ∷ l) (append_assoc line (10 ∷ []) rest)

pub length-block : (line : List ℕ) → length (block line) ≡ length line + 2
length-block line = omega (arith, length-append line (10 ∷ []))

pub same_block : (xs ys a b : List ℕ) → IsRecordLine xs → IsRecordLine ys → block xs ++ a ≡ block ys ++ b → (xs ≡ ys) × (a ≡ b)
same_block xs ys a b p q is =
    same_line xs ys a b p q (tails 43 43 (xs ++ 10 ∷ a) (ys ++ 10 ∷ b) (sym (block_then xs a) ∙ is ∙ block_then ys b))

pub blocks_push : (lines : List (List ℕ)) (line rest : List ℕ) → blocks (lines ++ line ∷ []) ++ rest ≡ blocks lines ++ (block line ++ rest)
blocks_push [] line rest = ap (λ (l : List ℕ). l ++ rest) (append-nil (block line))
blocks_push (l ∷ lines) line rest =
    append_assoc (block l) (blocks (lines ++ line ∷ [])) rest ∙ ap (λ (m : List ℕ). block l ++ m) (blocks_push lines line rest) ∙ sym (append_assoc (block l) (blocks lines) (block line ++ rest))

pub lines_push : (lines : List (List ℕ)) (line : List ℕ) → AreLines lines → IsRecordLine line → AreLines (lines ++ line ∷ [])
lines_push [] line p q = (q, tt)
lines_push (l ∷ lines) line p q = (p.0, lines_push lines line p.1 q)

-- a file stands for one list of records
pub one_reading : (xs ys : List (List ℕ)) (a b : List ℕ) → AreLines xs → AreLines ys → blocks xs ++ a ≡ blocks ys ++ b
    → ((line rest : List ℕ) → IsRecordLine line → a ≢ block line ++ rest) → ((line rest : List ℕ) → IsRecordLine line → b ≢ block line ++ rest) → xs ≡ ys
one_reading [] [] a b p q is end_a end_b = refl
one_reading [] (y ∷ ys) a b p q is end_a end_b = absurd (end_a y (blocks ys ++ b) q.0 (is ∙ append_assoc (block y) (blocks ys) b))
one_reading (x ∷ xs) [] a b p q is end_a end_b = absurd (end_b x (blocks xs ++ a) p.0 (sym is ∙ append_assoc (block x) (blocks xs) a))
one_reading (x ∷ xs) (y ∷ ys) a b p q is end_a end_b =
    let parts = same_block x y (blocks xs ++ a) (blocks ys ++ b) p.0 q.0 (sym (append_assoc (block x) (blocks xs) a) ∙ is ∙ append_assoc (block y) (blocks ys) b) in
    let rest = one_reading xs ys a b p.1 q.1 parts.1 end_a end_b in
    (λ i. parts.0 i ∷ rest i)

pub stands_once : (file : List ℕ) (xs ys : List (List ℕ)) → StandsFor file xs → StandsFor file ys → xs ≡ ys
stands_once file xs ys s t = one_reading xs ys s.end t.end s.are_lines t.are_lines (sym s.split ∙ t.split) s.nothing t.nothing

-- what begins with another byte than an open gate begins with no record
pub shut : (gate : ℕ) (rest : List ℕ) → gate ≢ 43 → (line more : List ℕ) → IsRecordLine line → gate ∷ rest ≢ block line ++ more
shut gate rest closed line more is_line is = closed (heads gate 43 rest (line ++ 10 ∷ more) (is ∙ block_then line more))

pub stands_closed : (lines : List (List ℕ)) (gate : ℕ) (rest : List ℕ) → AreLines lines → gate ≢ 43 → StandsFor (blocks lines ++ gate ∷ rest) lines
stands_closed lines gate rest are closed = record { are_lines = are; end = gate ∷ rest; split = refl; nothing = shut gate rest closed }

pub stands_at_rest : (lines : List (List ℕ)) → AreLines lines → StandsFor (at_rest lines) lines
stands_at_rest lines are = stands_closed lines 45 [] are (omega arith)

-- after the closed gate stands what a record wants
abbrev pub staged : List (List ℕ) → List ℕ → List ℕ
staged lines line = blocks lines ++ 45 ∷ (line ++ 10 ∷ 45 ∷ [])

module _ (lines : List (List ℕ)) (size : ℕ) (are : AreLines lines) (size_is : size ≡ length (blocks lines)) where
  pub length-at_rest : length (at_rest lines) ≡ size + 1
  length-at_rest = omega (arith, size_is, length-append (blocks lines) (45 ∷ []))

  -- the closed gate stands in each outcome of the first write
  pub torn_behind : (n : ℕ) (c : List ℕ) → Torn (size + 1) n (at_rest lines) c → StandsFor c lines
  torn_behind n c torn =
      let front : take (size + 1) c ≡ at_rest lines = torn.before ∙ take_all (size + 1) (at_rest lines) (omega (arith, length-at_rest)) in
      let whole : c ≡ blocks lines ++ 45 ∷ drop (size + 1) c =
      sym (take-append-drop (size + 1) c) ∙ ap (λ (l : List ℕ). l ++ drop (size + 1) c) front ∙ append_assoc (blocks lines) (45 ∷ []) (drop (size + 1) c) in
      subst (λ (f : List ℕ). StandsFor f lines) (sym whole) (stands_closed lines 45 (drop (size + 1) c) are (omega arith))

  pub written_behind : (tail : List ℕ) → overwritten (size + 1) tail (at_rest lines) ≡ blocks lines ++ 45 ∷ tail
  written_behind tail =
      ap (λ (l : List ℕ). l ++ (tail ++ drop (size + 1 + length tail) (at_rest lines))) (take_all (size + 1) (at_rest lines) (omega (arith, length-at_rest)))
      ∙ ap (λ (l : List ℕ). at_rest lines ++ (tail ++ l)) (drop_all (size + 1 + length tail) (at_rest lines) (omega (arith, length-at_rest)))
      ∙ ap (λ (l : List ℕ). at_rest lines ++ l) (append-nil tail)
      ∙ append_assoc (blocks lines) (45 ∷ []) tail

  module _ (line : List ℕ) (is_line : IsRecordLine line) where
    tail : List ℕ
    tail = line ++ 10 ∷ 45 ∷ []

    pub length-staged : length (staged lines line) ≡ size + (1 + length (line ++ 10 ∷ 45 ∷ []))
    length-staged = omega (arith, size_is, length-append (blocks lines) (45 ∷ (line ++ 10 ∷ 45 ∷ [])))

    opened : (rest : List ℕ) → blocks lines ++ 43 ∷ (line ++ 10 ∷ 45 ∷ rest) ≡ blocks (lines ++ line ∷ []) ++ 45 ∷ rest
    opened rest = ap (λ (l : List ℕ). blocks lines ++ l) (sym (block_then line (45 ∷ rest))) ∙ sym (blocks_push lines line (45 ∷ rest))

    -- a whole record after any gate counts, or it does not
    any_gate : (gate : ℕ) → IsBeforeOrAfter lines line (blocks lines ++ gate ∷ (line ++ 10 ∷ 45 ∷ []))
    any_gate gate = elim (cases_eq gate 43) [
      | inl is_open ↦ inr (subst (λ (f : List ℕ). StandsFor f (lines ++ line ∷ [])) (sym (opened []) ∙ (λ i. blocks lines ++ sym is_open i ∷ (line ++ 10 ∷ 45 ∷ []))) (stands_at_rest (lines ++ line ∷ []) (lines_push lines line are is_line)))
      | inr closed ↦ inl (stands_closed lines gate (line ++ 10 ∷ 45 ∷ []) are closed)
    ]

    -- the record stands whole in each outcome of the second write
    pub torn_gate : (c : List ℕ) → Torn size 1 (staged lines line) c → IsBeforeOrAfter lines line c
    torn_gate c torn =
        let gate = get_or c size 0 in
        let front : take size c ≡ blocks lines = torn.before ∙ take_at (blocks lines) (45 ∷ (line ++ 10 ∷ 45 ∷ [])) size (sym size_is) in
        let back : drop (size + 1) (staged lines line) ≡ line ++ 10 ∷ 45 ∷ [] =
        ap (λ (l : List ℕ). drop (size + 1) l) (sym (append_assoc (blocks lines) (45 ∷ []) (line ++ 10 ∷ 45 ∷ []))) ∙ drop_at (at_rest lines) (line ++ 10 ∷ 45 ∷ []) (size + 1) length-at_rest in
        let rest : drop size c ≡ gate ∷ (line ++ 10 ∷ 45 ∷ []) =
        drop_more c size 0 (omega (arith, torn.no_shorter, length-staged)) ∙ ap (λ (l : List ℕ). gate ∷ l) (torn.after ∙ back) in
        let whole : c ≡ blocks lines ++ gate ∷ (line ++ 10 ∷ 45 ∷ []) =
        sym (take-append-drop size c) ∙ ap (λ (l : List ℕ). l ++ drop size c) front ∙ ap (λ (l : List ℕ). blocks lines ++ l) rest in
        subst (IsBeforeOrAfter lines line) (sym whole) (any_gate gate)

    pub written_gate : overwritten size (43 ∷ []) (staged lines line) ≡ at_rest (lines ++ line ∷ [])
    written_gate =
        let back : drop (size + 1) (staged lines line) ≡ line ++ 10 ∷ 45 ∷ [] =
        ap (λ (l : List ℕ). drop (size + 1) l) (sym (append_assoc (blocks lines) (45 ∷ []) (line ++ 10 ∷ 45 ∷ []))) ∙ drop_at (at_rest lines) (line ++ 10 ∷ 45 ∷ []) (size + 1) length-at_rest in
        ap (λ (l : List ℕ). l ++ 43 ∷ drop (size + 1) (staged lines line)) (take_at (blocks lines) (45 ∷ (line ++ 10 ∷ 45 ∷ [])) size (sym size_is))
        ∙ ap (λ (l : List ℕ). blocks lines ++ 43 ∷ l) back
        ∙ opened []

    pub size_then : size + (length line + 2) ≡ length (blocks (lines ++ line ∷ []))
    size_then =
        let all : blocks (lines ++ line ∷ []) ++ [] ≡ blocks lines ++ (block line ++ []) = blocks_push lines line [] in
        let long : length (blocks (lines ++ line ∷ []) ++ []) ≡ length (blocks lines ++ (block line ++ [])) = ap length all in
        omega (arith, size_is, long, length-append (blocks (lines ++ line ∷ [])) [], length-append (blocks lines) (block line ++ []), length-append (block line) [], length-block line)

-- a front in which no line feed stands is a line
pub line_from : (k : ℕ) (xs : List ℕ) → k ≤ length xs → ((j : ℕ) → j < k → slice_index xs j ≢ 10) → IsRecordLine (take k xs)
line_from zero xs le none = tt
line_from (suc k) [] le none = absurd (omega arith)
line_from (suc k) (x ∷ xs) le none = (none 0 (omega arith), line_from k xs (omega arith) (λ j below. none (suc j) (omega arith)))

-- what comes before the first line feed is a line
pub line_before : (xs : List ℕ) (k : ℕ) → NoneBefore (Passes (is_byte 10) xs) 0 (length xs) k → IsRecordLine (take k xs)
line_before xs k first = line_from k xs (omega (arith, first.high)) (λ j below is. first.before j (omega arith) below (eq-eqb (slice_index xs j) 10 is))

pub split_at_feed : (xs : List ℕ) (k : ℕ) → k < length xs → slice_index xs k ≡ 10 → xs ≡ take k xs ++ 10 ∷ drop (k + 1) xs
split_at_feed xs k below is = sym (take-append-drop k xs) ∙ ap (λ (l : List ℕ). take k xs ++ l) (drop_more xs k 0 below ∙ (λ i. is i ∷ drop (k + 1) xs))

-- a record's line feed is found
feed_after : (line rest : List ℕ) → slice_index (line ++ 10 ∷ rest) (length line) ≡ 10
feed_after [] rest = refl
feed_after (x ∷ line) rest = feed_after line rest

pub no_feed : (bytes line rest : List ℕ) → Nowhere (Passes (is_byte 10) bytes) 0 (length bytes) → bytes ≢ line ++ 10 ∷ rest
no_feed bytes line rest nowhere same =
    subst (λ (l : List ℕ). Nowhere (Passes (is_byte 10) l) 0 (length l)) same nowhere (length line) (omega arith)
    (omega (arith, length-append line (10 ∷ rest))) (eq-eqb (slice_index (line ++ 10 ∷ rest) (length line)) 10 (feed_after line rest))

pub no_line : (after line rest : List ℕ) → ((line rest : List ℕ) → after ≢ line ++ 10 ∷ rest) → 43 ∷ after ≢ block line ++ rest
no_line after line rest none is = none line rest (tails 43 43 after (line ++ 10 ∷ rest) (is ∙ block_then line rest))

-- a step of taking records out
kept_all : (lines : List (List ℕ)) → lines_kept lines [] ≡ lines
kept_all [] = refl
kept_all (line ∷ lines) = refl

kept_first : (line : List ℕ) (lines : List (List ℕ)) (outs : List Bool) → lines_kept (line ∷ lines) outs ≡ (if is_out outs 0 then lines_kept lines (drop 1 outs) else line ∷ lines_kept lines (drop 1 outs))
kept_first line lines [] = ap (λ (l : List (List ℕ)). line ∷ l) (sym (kept_all lines))
kept_first line lines (true ∷ outs) = refl
kept_first line lines (false ∷ outs) = refl

out_later : (outs : List Bool) (at : ℕ) → is_out (drop at outs) 0 ≡ is_out outs at
out_later outs zero = refl
out_later [] (suc at) = refl
out_later (out ∷ outs) (suc at) = out_later outs at

drop_later : (outs : List Bool) (next at : ℕ) → next ≡ suc at → drop 1 (drop at outs) ≡ drop next outs
drop_later [] zero at is = absurd (omega arith)
drop_later [] (suc next) zero is = refl
drop_later [] (suc next) (suc at) is = refl
drop_later (out ∷ outs) zero at is = absurd (omega arith)
drop_later (out ∷ outs) (suc next) zero is = let same : zero ≡ next = omega arith in ap (λ (n : ℕ). drop n outs) same
drop_later (out ∷ outs) (suc next) (suc at) is = drop_later outs next at (omega arith)

kept_step : (lines : List (List ℕ)) (outs : List Bool) (at : ℕ) → at < length lines
    → lines_kept (drop at lines) (drop at outs) ≡ (if is_out outs at then lines_kept (drop (at + 1) lines) (drop (at + 1) outs) else get_or lines at [] ∷ lines_kept (drop (at + 1) lines) (drop (at + 1) outs))
kept_step lines outs at below =
    ap (λ (l : List (List ℕ)). lines_kept l (drop at outs)) (drop_more lines at [] below)
    ∙ kept_first (get_or lines at []) (drop (at + 1) lines) (drop at outs)
    ∙ (λ i. if out_later outs at i then lines_kept (drop (at + 1) lines) (drop_later outs (at + 1) at (omega arith) i) else get_or lines at [] ∷ lines_kept (drop (at + 1) lines) (drop_later outs (at + 1) at (omega arith) i))

pub kept_out : (lines : List (List ℕ)) (outs : List Bool) (at : ℕ) → at < length lines → is_out outs at ≡ true
    → lines_kept (drop at lines) (drop at outs) ≡ lines_kept (drop (at + 1) lines) (drop (at + 1) outs)
kept_out lines outs at below out =
    kept_step lines outs at below
    ∙ (λ i. if out i then lines_kept (drop (at + 1) lines) (drop (at + 1) outs) else get_or lines at [] ∷ lines_kept (drop (at + 1) lines) (drop (at + 1) outs))

pub kept_in : (lines : List (List ℕ)) (outs : List Bool) (at : ℕ) → at < length lines → is_out outs at ≡ false
    → lines_kept (drop at lines) (drop at outs) ≡ get_or lines at [] ∷ lines_kept (drop (at + 1) lines) (drop (at + 1) outs)
kept_in lines outs at below stays =
    kept_step lines outs at below
    ∙ (λ i. if stays i then lines_kept (drop (at + 1) lines) (drop (at + 1) outs) else get_or lines at [] ∷ lines_kept (drop (at + 1) lines) (drop (at + 1) outs))

pub kept_lines : (lines : List (List ℕ)) (outs : List Bool) → AreLines lines → AreLines (lines_kept lines outs)
kept_lines [] outs are = tt
kept_lines (line ∷ lines) [] are = are
kept_lines (line ∷ lines) (true ∷ outs) are = kept_lines lines outs are.1
kept_lines (line ∷ lines) (false ∷ outs) are = (are.0, kept_lines lines outs are.1)

taken_none : (lines : List (List ℕ)) → lines_taken_out lines [] ≡ []
taken_none [] = refl
taken_none (line ∷ lines) = refl

taken_first : (line : List ℕ) (lines : List (List ℕ)) (outs : List Bool) → lines_taken_out (line ∷ lines) outs ≡ (if is_out outs 0 then line ++ 10 ∷ lines_taken_out lines (drop 1 outs) else lines_taken_out lines (drop 1 outs))
taken_first line lines [] = sym (taken_none lines)
taken_first line lines (true ∷ outs) = refl
taken_first line lines (false ∷ outs) = refl

taken_step : (lines : List (List ℕ)) (outs : List Bool) (at : ℕ) → at < length lines
    → lines_taken_out (drop at lines) (drop at outs) ≡ (if is_out outs at then get_or lines at [] ++ 10 ∷ lines_taken_out (drop (at + 1) lines) (drop (at + 1) outs) else lines_taken_out (drop (at + 1) lines) (drop (at + 1) outs))
taken_step lines outs at below =
    ap (λ (l : List (List ℕ)). lines_taken_out l (drop at outs)) (drop_more lines at [] below)
    ∙ taken_first (get_or lines at []) (drop (at + 1) lines) (drop at outs)
    ∙ (λ i. if out_later outs at i then get_or lines at [] ++ 10 ∷ lines_taken_out (drop (at + 1) lines) (drop_later outs (at + 1) at (omega arith) i) else lines_taken_out (drop (at + 1) lines) (drop_later outs (at + 1) at (omega arith) i))

pub taken_out : (lines : List (List ℕ)) (outs : List Bool) (at : ℕ) → at < length lines → is_out outs at ≡ true
    → lines_taken_out (drop at lines) (drop at outs) ≡ get_or lines at [] ++ 10 ∷ lines_taken_out (drop (at + 1) lines) (drop (at + 1) outs)
taken_out lines outs at below out =
    taken_step lines outs at below
    ∙ (λ i. if out i then get_or lines at [] ++ 10 ∷ lines_taken_out (drop (at + 1) lines) (drop (at + 1) outs) else lines_taken_out (drop (at + 1) lines) (drop (at + 1) outs))

pub taken_in : (lines : List (List ℕ)) (outs : List Bool) (at : ℕ) → at < length lines → is_out outs at ≡ false
    → lines_taken_out (drop at lines) (drop at outs) ≡ lines_taken_out (drop (at + 1) lines) (drop (at + 1) outs)
taken_in lines outs at below stays =
    taken_step lines outs at below
    ∙ (λ i. if stays i then get_or lines at [] ++ 10 ∷ lines_taken_out (drop (at + 1) lines) (drop (at + 1) outs) else lines_taken_out (drop (at + 1) lines) (drop (at + 1) outs))

-- an item that is there, whatever else would be read
pub same_item : (xs : List (List ℕ)) (i : ℕ) (d e : List ℕ) → i < length xs → get_or xs i d ≡ get_or xs i e
same_item [] i d e below = absurd (omega arith)
same_item (x ∷ xs) zero d e below = refl
same_item (x ∷ xs) (suc i) d e below = same_item xs i d e (omega arith)
