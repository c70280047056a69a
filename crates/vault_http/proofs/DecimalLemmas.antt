-- Decimal digits in the value of a field: for the law that what was written is read back.
use Rattle.std.proofs.Common.{◌≡◌, ℕ, ◌+◌, ◌%◌, ◌^◌, ◌<◌, ◌≤◌, true, false, IsTrue, List, [], ◌∷◌, reverse, decimal, refl, sym, ap, ◌∙◌, subst, arith, All, Some}
use Rattle.std.specs.{List.list_all, Str.Parse.AllDigits}
use Rattle.std.proofs.lemmas.{Fmt.decimal_by_steps, Fmt.decimal_is_IsNumeral, Fmt.length-decimal-le, Bool.cond-true, Bool.cond-false, Bool.and_from, Bool.lt-ltb, Bool.le-leb, Bool.Decides.nat_tests}
use Rattle.std.proofs.lemmas.{List.Elements.All-nil, List.Elements.All-cons, List.Elements.All-head, List.Elements.All-tail, List.Elements.All-push, List.Elements.All-weaker, List.reverse-append}
use Rattle.httparse.specs.Grammar.{AllPass, is_value_byte, is_ows, skip_ows, trim_ows}
use Rattle.httparse.proofs.TrimLemmas.{trim_ows_space}
use Rattle.vault_http.specs.Framing.{is_digit, length_in}

-- an ASCII digit
abbrev pub IsDigitByte : ℕ → Type 0
IsDigitByte b = (48 ≤ b) × (b ≤ 57)

pub decimal_digits : (n : ℕ) → n < 2 ^ 64 → All IsDigitByte (decimal n)
decimal_digits = decimal_by_steps (λ n ds. All IsDigitByte ds)
    (λ n few. All-cons IsDigitByte (48 + n) [] (omega arith, omega arith) (All-nil IsDigitByte))
    (λ n ds some all. All-push IsDigitByte ds (48 + n % 10) all (omega arith, omega arith))

pub value_byte : (b : ℕ) → IsDigitByte b → IsTrue (is_value_byte b)
value_byte b h = grind (arith, nat_tests)

not_blank : (b : ℕ) → IsDigitByte b → is_ows b ≡ false
not_blank b h = grind (arith, nat_tests)

-- digits after a space are bytes of a value
pub digits_pass : (ds : List ℕ) → All IsDigitByte ds → AllPass is_value_byte (32 ∷ ds)
digits_pass ds all = All-cons (λ b. IsTrue (is_value_byte b)) 32 ds refl (All-weaker IsDigitByte (λ b. IsTrue (is_value_byte b)) value_byte ds all)

skip_none : (ds : List ℕ) → All IsDigitByte ds → skip_ows ds ≡ ds
skip_none [] all = refl
skip_none (d ∷ ds) all = cond-false _ _ _ (not_blank d (All-head IsDigitByte d ds all))

all_reversed : (ds : List ℕ) → All IsDigitByte ds → All IsDigitByte (reverse ds)
all_reversed [] all = all
all_reversed (d ∷ ds) all =
    subst (All IsDigitByte) (sym (reverse-append (d ∷ []) ds)) (All-push IsDigitByte (reverse ds) d (all_reversed ds (All-tail IsDigitByte d ds all)) (All-head IsDigitByte d ds all))

-- the value of a field that is written as a space and digits
pub digits_trimmed : (ds : List ℕ) → All IsDigitByte ds → trim_ows (32 ∷ ds) ≡ ds
digits_trimmed ds all = trim_ows_space ds (skip_none ds all) (skip_none (reverse ds) (all_reversed ds all))

all_digits : (ds : List ℕ) → AllDigits 10 ds → list_all (is_digit 10) ds ≡ true
all_digits [] all = refl
all_digits (d ∷ ds) all = and_from (is_digit 10 d) (list_all (is_digit 10) ds) (lt-ltb _ _ all.0) (all_digits ds all.1)

-- the length that the digits of a number below 10 ^ 15 give
pub length_known : (n : ℕ) → n < 10 ^ 15 → length_in (decimal n) ≡ Some n
unfolding length_in
length_known n few =
    let small : n < 2 ^ 64 = omega arith in
    let numeral = decimal_is_IsNumeral n small in
    let short = length-decimal-le 15 n (omega arith) few small in
    cond-true _ _ _ (and_from _ _ (lt-ltb _ _ numeral.0.0) (le-leb _ _ short)) ∙ cond-true _ _ _ (all_digits (decimal n) numeral.0.1) ∙ ap (λ k. Some k) numeral.1
