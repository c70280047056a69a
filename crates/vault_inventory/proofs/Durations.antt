-- Durations: the digits at the front of a text, one after the other.
use Rattle.std.proofs.Common.{◌≡◌, ◌+◌, ◌<◌, ◌≤◌, ◌&&◌, ℕ, Bool, true, false, cond, List, ◌∷◌, drop, get_or, length, ap, ◌∙◌, arith}
use Rattle.std.proofs.lemmas.{List.drop_more, List.drop_all, Str.Parse.digits_value_short}
use Rattle.std.specs.{Char.is_ascii_digit, List.list_all, Str.Parse.digits_value}
use Rattle.base_words.proofs.Digits.{own}
use Rattle.vault_inventory.specs.Durations.{digits_before}

pub front_digit : (b : ℕ) (bs : List ℕ) → is_ascii_digit b ≡ true → digits_before (b ∷ bs) ≡ 1 + digits_before bs
unfolding digits_before
front_digit b bs is = ap (λ c. cond c (1 + digits_before bs) 0) is

pub front_other : (b : ℕ) (bs : List ℕ) → is_ascii_digit b ≡ false → digits_before (b ∷ bs) ≡ 0
unfolding digits_before
front_other b bs is = ap (λ c. cond c (1 + digits_before bs) 0) is

pub digit_passed : (text : List ℕ) (i : ℕ) → i < length text → is_ascii_digit (get_or text i 0) ≡ true → digits_before text ≡ i + digits_before (drop i text) → digits_before text ≡ (i + 1) + digits_before (drop (i + 1) text)
digit_passed text i h is so_far =
    let more = ap digits_before (drop_more text i 0 h) ∙ front_digit (get_or text i 0) (drop (i + 1) text) is in omega (arith, so_far, more)

pub digits_end : (text : List ℕ) (i : ℕ) → i < length text → is_ascii_digit (get_or text i 0) ≡ false → digits_before text ≡ i + digits_before (drop i text) → digits_before text ≡ i
digits_end text i h is so_far =
    let none = ap digits_before (drop_more text i 0 h) ∙ front_other (get_or text i 0) (drop (i + 1) text) is in omega (arith, so_far, none)

pub digits_all : (text : List ℕ) (i : ℕ) → length text ≤ i → digits_before text ≡ i + digits_before (drop i text) → digits_before text ≡ i
unfolding digits_before
digits_all text i h so_far = let none = ap digits_before (drop_all i text h) in omega (arith, so_far, none)

pub both_true : (a b : Bool) → a ≡ true → b ≡ true → a && b ≡ true
both_true a b one two = ap (λ c. c && b) one ∙ two

-- ten digits are a number below 10,000,000,000
pub ten_digits : (ds : List ℕ) → list_all is_ascii_digit ds ≡ true → length ds ≤ 10 → digits_value 10 ds < 10000000000
ten_digits ds all short = digits_value_short own ds 10 all short
