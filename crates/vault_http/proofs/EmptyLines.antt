-- Empty lines: a head and a body in chunks end with one.
use Rattle.std.proofs.Common.{◌≡◌, ℕ, ◌+◌, ◌-◌, ◌<◌, ◌≤◌, Bool, true, false, cond, nat_eq, List, [], ◌∷◌, ◌++◌, length, take, drop, refl, sym, ap, ◌∙◌, arith, append_assoc, length-append, take-append-drop, append-nil, take_while, IsTrue, ◌&&◌}
use Rattle.std.proofs.lemmas.{Bool.and_from, List.take_at, List.take-append-le, List.drop-append-le, List.length-take-le, List.Folds.list_all-append}
use Rattle.httparse.specs.Grammar.{LineEnd, crlf, lf, print_end, Field, print_field, print_section, ResponseHead, print_response, RequestHead, print_request, print_blank, print_version, print_reason}
use Rattle.httparse.proofs.{GrammarLemmas.print_response-append, GrammarLemmas.print_request-append, PieceLemmas.print_field-append}
use Rattle.vault_http.proofs.Runs.{front, run_of, take_while-front}
use Rattle.vault_http.specs.EmptyLine.{HasLineBehind, is_line_end_byte}
use Rattle.std.specs.List.{flat_map, list_all}

-- ---- the front of a text

-- a front that is no longer than the first part stands in it
pub front_split : (xs more p r : List ℕ) → xs ++ more ≡ p ++ r → length p ≤ length xs → xs ≡ p ++ drop (length p) xs
front_split xs more p r e within =
    let front : take (length p) xs ≡ p = sym (take-append-le (length p) xs more within) ∙ ap (take (length p)) e ∙ take_at p r (length p) refl in
    sym (take-append-drop (length p) xs) ∙ ap (λ t. t ++ drop (length p) xs) front

-- ---- what ends with an empty line

-- the text ends with that
abbrev pub EndsWith : List ℕ → List ℕ → Type 0
EndsWith tail text = (front : List ℕ) × (text ≡ front ++ tail)

pub ends_more : (tail x y : List ℕ) → EndsWith tail y → EndsWith tail (x ++ y)
ends_more tail x y h = (x ++ h.0, ap (λ t. x ++ t) h.1 ∙ sym (append_assoc x h.0 tail))

ends_as : (tail x y : List ℕ) → x ≡ y → EndsWith tail y → EndsWith tail x
ends_as tail x y e h = (h.0, e ∙ h.1)

-- a line feed and a line end
abbrev pub empty_line : LineEnd → List ℕ
empty_line end = 10 ∷ print_end end

line_ends : (end last : LineEnd) → EndsWith (empty_line last) (print_end end ++ print_end last)
line_ends crlf last = (13 ∷ [], refl)
line_ends lf last = ([], refl)

section_ends : (end : LineEnd) (fields : List Field) (last : LineEnd) → EndsWith (empty_line last) (print_end end ++ print_section fields last)
section_ends end [] last = line_ends end last
section_ends end (f ∷ fields) last =
    let tail = empty_line last in
    let behind = print_end f.end ++ print_section fields last in
    let line : print_section (f ∷ fields) last ≡ f.name ++ (58 ∷ (f.raw ++ behind)) =
    append_assoc (print_field f) (flat_map print_field fields) (print_end last) ∙ print_field-append f (print_section fields last) in
    ends_more tail (print_end end) (print_section (f ∷ fields) last)
    (ends_as tail (print_section (f ∷ fields) last) (f.name ++ (58 ∷ (f.raw ++ behind))) line
    (ends_more tail f.name (58 ∷ (f.raw ++ behind)) (ends_more tail (58 ∷ []) (f.raw ++ behind) (ends_more tail f.raw behind (section_ends f.end fields last)))))

-- the same, with nothing after
last_ends : (end : LineEnd) (fields : List Field) (last : LineEnd) → EndsWith (empty_line last) (print_end end ++ (print_section fields last ++ []))
last_ends end fields last =
    ends_as (empty_line last) (print_end end ++ (print_section fields last ++ [])) (print_end end ++ print_section fields last)
    (ap (λ t. print_end end ++ t) (append-nil (print_section fields last))) (section_ends end fields last)

pub response_ends : (h : ResponseHead) → EndsWith (empty_line h.last) (print_response h)
response_ends h =
    let tail = empty_line h.last in
    let e = print_end h.line_end ++ (print_section h.fields h.last ++ []) in
    let d = h.digits ++ (print_reason h.reason ++ e) in
    let text = print_blank h.blank ++ (print_version h.minor ++ (32 ∷ d)) in
    ends_as tail (print_response h) text (sym (append-nil (print_response h)) ∙ print_response-append h [])
    (ends_more tail (print_blank h.blank) (print_version h.minor ++ (32 ∷ d)) (ends_more tail (print_version h.minor) (32 ∷ d) (ends_more tail (32 ∷ []) d
    (ends_more tail h.digits (print_reason h.reason ++ e) (ends_more tail (print_reason h.reason) e (last_ends h.line_end h.fields h.last))))))

pub request_ends : (h : RequestHead) → EndsWith (empty_line h.last) (print_request h)
request_ends h =
    let tail = empty_line h.last in
    let e = print_end h.line_end ++ (print_section h.fields h.last ++ []) in
    let v = print_version h.minor ++ e in
    let t = h.target ++ (32 ∷ v) in
    let text = print_blank h.blank ++ (h.method ++ (32 ∷ t)) in
    ends_as tail (print_request h) text (sym (append-nil (print_request h)) ∙ print_request-append h [])
    (ends_more tail (print_blank h.blank) (h.method ++ (32 ∷ t)) (ends_more tail h.method (32 ∷ t) (ends_more tail (32 ∷ []) t
    (ends_more tail h.target (32 ∷ v) (ends_more tail (32 ∷ []) v (ends_more tail (print_version h.minor) e (last_ends h.line_end h.fields h.last)))))))

-- a text that goes on past a part of it that ends with an empty line
pub line_behind : (last : LineEnd) (xs more p r : List ℕ) → xs ++ more ≡ p ++ r → EndsWith (empty_line last) p → length xs < length p → HasLineBehind (length xs) (xs ++ more)
line_behind last xs more p r e ends short = record {
  front = ends.0;
  end = last;
  rest = r;
  bytes_are = e ∙ ap (λ t. t ++ r) ends.1 ∙ append_assoc ends.0 (empty_line last) r;
  behind = omega (arith, short, ap length ends.1, length-append ends.0 (empty_line last));
}

-- ---- looking for one

-- whether a walk over the bytes meets a line feed that follows another one with nothing but carriage returns between
abbrev pub meets : ℕ → List ℕ → Bool
meets last [] = false
meets last (b ∷ bytes) = cond (nat_eq b 10 && nat_eq last 10) true (meets (cond (nat_eq b 13) last b) bytes)

cond_true : (c x : Bool) → x ≡ true → cond c true x ≡ true
cond_true true x e = refl
cond_true false x e = e

meets_end : (end : LineEnd) (rest : List ℕ) → meets 10 (print_end end ++ rest) ≡ true
meets_end crlf rest = refl
meets_end lf rest = refl

meets_line : (last : ℕ) (front : List ℕ) (end : LineEnd) (rest : List ℕ) → meets last (front ++ (10 ∷ (print_end end ++ rest))) ≡ true
meets_line last [] end rest = cond_true (nat_eq last 10) (meets 10 (print_end end ++ rest)) (meets_end end rest)
meets_line last (b ∷ front) end rest =
    let next = cond (nat_eq b 13) last b in
    cond_true (nat_eq b 10 && nat_eq last 10) (meets next (front ++ (10 ∷ (print_end end ++ rest)))) (meets_line next front end rest)

pub none_met : (bytes : List ℕ) → meets 0 bytes ≡ false → HasLineBehind 0 bytes → ⊥
none_met bytes e h = let met = sym e ∙ ap (meets 0) h.bytes_are ∙ meets_line 0 h.front h.end h.rest in cc

-- an empty line that ends after the first n bytes begins at most two before
pub line_after : (bytes : List ℕ) (n from : ℕ) → from ≤ n - 2 → HasLineBehind n bytes → HasLineBehind 0 (drop from bytes)
line_after bytes n from low h =
    let short : length (print_end h.end) ≤ 2 = end_short h.end in
    let within : from ≤ length h.front = omega (arith, low, short, h.behind) in record {
      front = drop from h.front;
      end = h.end;
      rest = h.rest;
      bytes_are = ap (drop from) h.bytes_are ∙ drop-append-le from h.front (10 ∷ (print_end h.end ++ h.rest)) within;
      behind = omega arith;
    }
  where
    end_short : (end : LineEnd) → length (print_end end) ≤ 2
    end_short crlf = omega arith
    end_short lf = omega arith

-- ---- bytes of line ends alone

and_right : (b c : Bool) → (b && c) ≡ true → c ≡ true
and_right true c e = e
and_right false c e = absurd (cc e)

-- a space is none
pub not_blank : (a b t : List ℕ) → list_all is_line_end_byte (a ++ (b ++ (32 ∷ t))) ≡ true → ⊥
not_blank [] [] t e = cc
not_blank [] (x ∷ b) t e = not_blank [] b t (and_right (is_line_end_byte x) (list_all is_line_end_byte (b ++ (32 ∷ t))) e)
not_blank (x ∷ a) b t e = not_blank a b t (and_right (is_line_end_byte x) (list_all is_line_end_byte (a ++ (b ++ (32 ∷ t)))) e)

-- more of them after others
pub blank_more : (bytes : List ℕ) (blank more : ℕ) → blank ≤ length bytes → IsTrue (list_all is_line_end_byte (take blank bytes)) → more ≡ length (take_while is_line_end_byte (drop blank bytes))
    → (blank + more ≤ length bytes) × IsTrue (list_all is_line_end_byte (take (blank + more) bytes))
blank_more bytes blank more within e m =
    let here = take blank bytes in
    let run = front is_line_end_byte (drop blank bytes) in
    let r = run_of is_line_end_byte (drop blank bytes) in
    let many : more ≡ length run = m ∙ ap length (take_while-front is_line_end_byte (drop blank bytes)) in
    let whole : bytes ≡ here ++ (run ++ r.0) = sym (take-append-drop blank bytes) ∙ ap (λ t. here ++ t) r.1.split in
    let long : length here ≡ blank = length-take-le blank bytes within in
    let first : take (blank + more) bytes ≡ here ++ run =
    ap (take (blank + more)) (whole ∙ sym (append_assoc here run r.0)) ∙ take_at (here ++ run) r.0 (blank + more) (omega (arith, length-append here run, long, many)) in (
      omega (arith, ap length whole, length-append here (run ++ r.0), length-append run r.0, long, many),
      ap (list_all is_line_end_byte) first ∙ list_all-append is_line_end_byte here run ∙ and_from (list_all is_line_end_byte here) (list_all is_line_end_byte run) e r.1.all,
    )
