-- A written line is one line: JSON escapes a line feed.
use Rattle.std.proofs.Common.{◌≡◌, ◌≢◌, ℕ, ◌+◌, ◌/◌, ◌%◌, ◌≤◌, Bool, true, false, cond, List, [], ◌∷◌, ◌++◌, map, length, get_or, nat_lt, refl, sym, ◌∙◌, arith, inl, inr, length-append, append_assoc}
use Rattle.std.proofs.Math.Seq.{get_or-append_seam}
use Rattle.std.proofs.lemmas.List.{get_or_append_left}
use Rattle.std.proofs.lemmas.Bool.{and_from, cases_eq, eq-eqb, ne_eqb, not_from_false, true≢false}
use Rattle.std.specs.{Char.digit_char, List.join_with_byte}
use Rattle.json.specs.Print.{escape, escape_byte, escape_letter, quoted}
use Rattle.base_words.specs.Laws.{Lacks}
use Rattle.base_words.proofs.Joined.{lacks_append, lacks_each}
use Rattle.agent_control.specs.{Front.IsLineFront, Front.LacksFeed, declared.limits.TheConstants.LINE_MAX, declared.front.Front.TheVariants.Whole}
use Rattle.agent_control.proofs.WordTrees.{line_of}

one_lacks : (x : ℕ) → x ≢ 10 → Lacks 10 (x ∷ [])
one_lacks x other = and_from _ true (not_from_false _ (ne_eqb x 10 other)) refl

front_lacks : (x : ℕ) (xs : List ℕ) → x ≢ 10 → Lacks 10 xs → Lacks 10 (x ∷ xs)
front_lacks x xs other h = and_from _ _ (not_from_false _ (ne_eqb x 10 other)) h

either_lacks : (b : Bool) (xs ys : List ℕ) → Lacks 10 xs → Lacks 10 ys → Lacks 10 (cond b xs ys)
either_lacks true xs ys h k = h
either_lacks false xs ys h k = k

either_not : (b : Bool) (x y : ℕ) → x ≢ 10 → y ≢ 10 → cond b x y ≢ 10
either_not true x y h k = h
either_not false x y h k = k

letter_is_not : (x : ℕ) → x ≢ 10 → escape_letter x ≢ 10
letter_is_not x other =
    either_not _ x _ other
    (either_not _ 98 _ (λ e. omega (arith, e))
    (either_not _ 102 _ (λ e. omega (arith, e))
    (either_not _ 110 _ (λ e. omega (arith, e))
    (either_not _ 114 _ (λ e. omega (arith, e))
    (either_not _ 116 0 (λ e. omega (arith, e)) (λ e. omega (arith, e)))))))

digit_is_not : (n : ℕ) → digit_char n ≢ 10
digit_is_not n = either_not (nat_lt n 10) (48 + n) (87 + n) (λ e. omega (arith, e)) (λ e. omega (arith, e))

-- a byte by its number, in hexadecimal digits
abbrev coded : ℕ → List ℕ
coded x = 92 ∷ 117 ∷ 48 ∷ 48 ∷ digit_char (x / 16) ∷ digit_char (x % 16) ∷ []

coded_lacks : (x : ℕ) → Lacks 10 (coded x)
coded_lacks x =
    lacks_append 10 (92 ∷ 117 ∷ 48 ∷ 48 ∷ []) (digit_char (x / 16) ∷ digit_char (x % 16) ∷ []) refl
    (front_lacks (digit_char (x / 16)) (digit_char (x % 16) ∷ []) (digit_is_not (x / 16)) (one_lacks (digit_char (x % 16)) (digit_is_not (x % 16))))

byte_lacks : (x : ℕ) → Lacks 10 (escape_byte x)
unfolding escape_byte
byte_lacks x =
    elim (cases_eq x 10) [
      | inl e ↦ rw e refl
      | inr other ↦
          either_lacks (nat_lt 0 (escape_letter x)) (92 ∷ escape_letter x ∷ []) (cond (nat_lt x 32) (coded x) (x ∷ []))
          (front_lacks 92 (escape_letter x ∷ []) (λ e. omega (arith, e)) (one_lacks (escape_letter x) (letter_is_not x other)))
          (either_lacks (nat_lt x 32) (coded x) (x ∷ []) (coded_lacks x) (one_lacks x other))
    ]

escape_lacks : (s : List ℕ) → Lacks 10 (escape s)
escape_lacks [] = refl
escape_lacks (x ∷ s) = lacks_append 10 (escape_byte x) (escape s) (byte_lacks x) (escape_lacks s)

quoted_lacks : (s : List ℕ) → Lacks 10 (quoted s)
quoted_lacks s = front_lacks 34 (escape s ++ 34 ∷ []) (λ e. omega (arith, e)) (lacks_append 10 (escape s) (34 ∷ []) (escape_lacks s) refl)

join_lacks : (ws : List (List ℕ)) → Lacks 10 (join_with_byte 44 (map quoted ws))
join_lacks [] = refl
join_lacks (w ∷ []) = quoted_lacks w
join_lacks (w ∷ x ∷ ws) = lacks_append 10 (quoted w) (44 ∷ join_with_byte 44 (map quoted (x ∷ ws))) (quoted_lacks w) (front_lacks 44 (join_with_byte 44 (map quoted (x ∷ ws))) (λ e. omega (arith, e)) (join_lacks (x ∷ ws)))

pub line_lacks : (ws : List (List ℕ)) → Lacks 10 (line_of ws)
unfolding line_of
line_lacks ws = front_lacks 91 (join_with_byte 44 (map quoted ws) ++ 93 ∷ []) (λ e. omega (arith, e)) (lacks_append 10 (join_with_byte 44 (map quoted ws)) (93 ∷ []) (join_lacks ws) refl)

-- ---- the first line of what begins with it

no_feed_in : (line rest : List ℕ) → Lacks 10 line → LacksFeed (length line) (line ++ rest)
no_feed_in line rest h i below is =
    let byte : get_or line i 0 ≡ 10 = sym (get_or_append_left line rest 0 i below) ∙ is in
    true≢false (sym (eq-eqb (get_or line i 0) 10 byte) ∙ lacks_each 10 line h i 0 below)

pub front_is : (line more : List ℕ) → Lacks 10 line → length line ≤ LINE_MAX → IsLineFront ((line ++ 10 ∷ []) ++ more) (Whole (length line))
front_is line more h short =
    let is : (line ++ 10 ∷ []) ++ more ≡ line ++ 10 ∷ more = append_assoc line (10 ∷ []) more in
    rw is (short, omega (arith, length-append line (10 ∷ more)), no_feed_in line (10 ∷ more) h, get_or-append_seam line 10 more 0)
