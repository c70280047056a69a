-- The value of digits, one digit after the other.
use Rattle.std.proofs.Common.{◌≡◌, ℕ, ◌+◌, ◌-◌, ◌*◌, ◌<◌, ◌≤◌, true, List, length, get_or, take, ap, ◌∙◌, arith, rules}
use Rattle.std.proofs.lemmas.{Bool.and_parts, Int.Digits.digits_value_more, Str.digit_value_digit, Str.Parse.IsNumeralModel, Str.Parse.numerals_by_value, Str.Parse.digit_at}
use Rattle.std.specs.{Char.digit_value, Char.is_ascii_digit, List.list_all, Str.Parse.digits_value}
use Rattle.base_words.specs.Numbers.{is_spelled}

pub own : IsNumeralModel (λ ds. list_all is_ascii_digit ds ≡ true) (digits_value 10)
own = numerals_by_value _ (search rules)

pub record IsDigit (b : ℕ) : Type 0 where
  pub least : 48 ≤ b
  pub most : b ≤ 57
  pub value : digit_value b ≡ b - 48

pub digit_of : (ds : List ℕ) (i : ℕ) → list_all is_ascii_digit ds ≡ true → i < length ds → IsDigit (get_or ds i 0)
digit_of ds i all inside =
    let range = digit_at ds i (own.to ds all) inside in
    let value = digit_value_digit (get_or ds i 0) range in
    record { least = omega (arith, range); most = omega (arith, range); value = omega (arith, range, value) }

pub one_digit_more : (ds : List ℕ) (i : ℕ) → list_all is_ascii_digit ds ≡ true → i < length ds
    → digits_value 10 (take (i + 1) ds) ≡ digits_value 10 (take i ds) * 10 + (get_or ds i 0 - 48)
one_digit_more ds i all inside =
    digits_value_more 10 ds i inside ∙ ap (λ d. digits_value 10 (take i ds) * 10 + d) ((digit_of ds i all inside).value)

-- a number that is spelled has digits alone
pub spelled_digits : (text : List ℕ) → is_spelled text ≡ true → list_all is_ascii_digit text ≡ true
unfolding is_spelled
spelled_digits text e = (and_parts (list_all is_ascii_digit text) _ e).0
