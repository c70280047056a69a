-- Lines: what is read up to a line feed, and that a line of a moment stands in front of an input in one way alone.
use Rattle.std.proofs.Common.{◌≡◌, ◌==◌, ℕ, ◌<◌, ◌≤◌, not, true, false, ◌&&◌, List, [], ◌∷◌, ◌++◌, Option, Some, None, IfSome, length, refl, sym, ap, ◌∙◌, arith, rules, inl, inr}
use Rattle.std.specs.{Char.is_ascii_digit, Io.KnownBytes.Consumes, List.list_all, Str.Parse.digits_value}
use Rattle.std.specs.Prelude.{decimal}
use Rattle.std.proofs.lemmas.{Bool.Decides.nat_tests, Fmt.digits_decimal, List.append_assoc, List.Folds.list_all-append, Str.Parse.IsNumeralModel, Str.Parse.numerals_by_value}
use Rattle.std.proofs.lemmas.Bool.{and_from, and_parts, cases_Bool}
use Rattle.std.proofs.Math.ListN.{length-append}
use Rattle.base_moment.specs.declared.moment.TheConstants.{LAST}
use Rattle.broker_table.specs.declared.moment_line.TheConstants.{MOST_LINE}
use Rattle.broker_table.specs.MomentLine.{BreaksOff, HasNoLine, HasNoMoment, IsOneLine}

-- ---- what is read piece by piece

pub consumes_more : (a b c : Option (List ℕ)) (xs ys : List ℕ) → Consumes a b xs → Consumes b c ys → Consumes a c (xs ++ ys)
consumes_more None b c xs ys first second = tt
consumes_more (Some as') None c xs ys first second = absurd first
consumes_more (Some as') (Some bs) None xs ys first second = absurd second
consumes_more (Some as') (Some bs) (Some cs) xs ys first second = first ∙ ap (λ zs. xs ++ zs) second ∙ sym (append_assoc xs ys cs)

pub one_more : (line : List ℕ) (b : ℕ) → IsOneLine line → (b == 10) ≡ false → IsOneLine (line ++ b ∷ [])
one_more line b one other =
    list_all-append (λ c. not (c == 10)) line (b ∷ []) ∙ and_from (list_all (λ c. not (c == 10)) line) (not (b == 10) && true) one (ap (λ x. not x && true) other)

-- where the byte that was read last finds no memory, a front of the line is lost
pub broken_off : (a b c : Option (List ℕ)) (line : List ℕ) (byte : ℕ) → IsOneLine line → (byte == 10) ≡ false → length line < MOST_LINE → Consumes a b line → Consumes b c (byte ∷ []) → BreaksOff a c
broken_off a b c line byte one other short first second =
    (line ++ byte ∷ [], one_more line byte one other, omega (arith, length-append line (byte ∷ []), short), consumes_more a b c line (byte ∷ []) first second)

-- ---- no line feed

no_feed : (line text more rest : List ℕ) → IsOneLine line → line ++ more ≡ text ++ (10 ∷ rest) → length text < length line → ⊥
no_feed [] text more rest one e h = omega (arith, h)
no_feed (b ∷ bs) [] more rest one e h =
    let same : b ≡ 10 = cc in
    let bad : false ≡ true = sym (ap (λ c. not (c == 10) && list_all (λ x. not (x == 10)) bs) same) ∙ one in cc
no_feed (b ∷ bs) (c ∷ cs) more rest one e h =
    let tails : bs ++ more ≡ cs ++ (10 ∷ rest) = cc in
    no_feed bs cs more rest (and_parts (not (b == 10)) (list_all (λ x. not (x == 10)) bs) one).1 tails (omega (arith, h))

pub none_so_long : (a b : Option (List ℕ)) (line : List ℕ) → Consumes a b line → MOST_LINE ≤ length line → IsOneLine line → IfSome a HasNoLine
none_so_long None b line given long one = tt
none_so_long (Some xs) None line given long one = absurd given
none_so_long (Some xs) (Some ys) line given long one = λ text rest plain short is.
    no_feed line text ys rest one (sym given ∙ is) (omega (arith, long, short))

-- ---- the line of a moment

own : IsNumeralModel (λ ds. list_all is_ascii_digit ds ≡ true) (digits_value 10)
own = numerals_by_value _ (search rules)

no_digit : (b : ℕ) → is_ascii_digit b ≡ true → not (b == 10) ≡ true
no_digit b digit = elim (cases_Bool (b == 10)) [
  | inl is ↦ absurd (let same : b ≡ 10 = grind (arith, nat_tests) in let bad : false ≡ true = sym (ap is_ascii_digit same) ∙ digit in cc)
  | inr other ↦ ap not other
]

digits_one : (ds : List ℕ) → list_all is_ascii_digit ds ≡ true → IsOneLine ds
digits_one [] e = refl
digits_one (d ∷ ds) e =
    let parts = and_parts (is_ascii_digit d) (list_all is_ascii_digit ds) e in
    and_from (not (d == 10)) (list_all (λ b. not (b == 10)) ds) (no_digit d parts.0) (digits_one ds parts.1)

decimal_one : (m : ℕ) → m ≤ LAST → IsOneLine (decimal m)
decimal_one m late = digits_one (decimal m) (digits_decimal own m (omega (arith, late)))

split_same : (a b x y : List ℕ) → IsOneLine a → IsOneLine b → a ++ (10 ∷ x) ≡ b ++ (10 ∷ y) → a ≡ b
split_same [] [] x y one two e = refl
split_same [] (c ∷ cs) x y one two e =
    absurd (let same : c ≡ 10 = cc in let bad : false ≡ true = sym (ap (λ d. not (d == 10) && list_all (λ z. not (z == 10)) cs) same) ∙ two in cc)
split_same (b ∷ bs) [] x y one two e =
    absurd (let same : b ≡ 10 = cc in let bad : false ≡ true = sym (ap (λ d. not (d == 10) && list_all (λ z. not (z == 10)) bs) same) ∙ one in cc)
split_same (b ∷ bs) (c ∷ cs) x y one two e =
    let heads : b ≡ c = cc in
    let tails : bs ++ (10 ∷ x) ≡ cs ++ (10 ∷ y) = cc in
    let rest = split_same bs cs x y (and_parts (not (b == 10)) (list_all (λ z. not (z == 10)) bs) one).1 (and_parts (not (c == 10)) (list_all (λ z. not (z == 10)) cs) two).1 tails in
    ap (λ d. d ∷ bs) heads ∙ ap (λ ds. c ∷ ds) rest

-- where there is no line, there is none of a moment
no_moment : (bytes : List ℕ) → HasNoLine bytes → HasNoMoment bytes
no_moment bytes none m rest begins =
    let l = length-append (decimal m) (10 ∷ []) in
    let k = begins.1 in
    none (decimal m) rest (decimal_one m begins.0) (omega (arith, l, k)) (begins.2 ∙ append_assoc (decimal m) (10 ∷ []) rest)

pub no_line_no_moment : (a : Option (List ℕ)) → IfSome a HasNoLine → IfSome a HasNoMoment
no_line_no_moment None none = tt
no_line_no_moment (Some bytes) none = no_moment bytes none

-- a line that spells no moment is none
pub other_line : (a b : Option (List ℕ)) (line : List ℕ) → Consumes a b (line ++ 10 ∷ []) → IsOneLine line → ((n : ℕ) → n ≤ LAST → line ≡ decimal n → ⊥) → IfSome a HasNoMoment
other_line None b line given one none = tt
other_line (Some xs) None line given one none = absurd given
other_line (Some xs) (Some ys) line given one none = λ m rest begins.
    let e : line ++ (10 ∷ ys) ≡ decimal m ++ (10 ∷ rest) = sym (append_assoc line (10 ∷ []) ys) ∙ sym given ∙ begins.2 ∙ append_assoc (decimal m) (10 ∷ []) rest in
    none m begins.0 (split_same line (decimal m) ys rest one (decimal_one m begins.0) e)
