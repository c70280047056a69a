-- A number has one spelling, which is the decimal text of it.
use Rattle.std.proofs.Common.{◌≡◌, ℕ, ◌^◌, ◌<◌, ◌≤◌, Bool, true, false, not, ◌||◌, ◌==◌, if◌then◌else◌, List, decimal, get_or, length, nat_le, nat_lt, IfSome, Option, Some, None, refl, sym, ap, ◌∙◌, subst, arith, inl, inr, ltb-true, lt-ltb, ⊎_elim}
use Rattle.std.proofs.lemmas.Bool.{and_from, and_parts, cases_eq, cond-true, eq-eqb, eqb-true, le-leb, leb-true, ne_eqb, not_from_false, or_cases, or_left, or_right}
use Rattle.std.proofs.lemmas.Fmt.{decimal-digits_value, decimal_digit, decimal_nonempty, digits_decimal, digits_value-decimal, first_decimal}
use Rattle.std.specs.{Char.is_ascii_digit, List.list_all, Str.Parse.digits_value}
use Rattle.base_words.specs.Numbers.{is_spelled, number_up_to}
use Rattle.base_words.proofs.Digits.{own}

chosen : {A : Type 0} (b : Bool) (x y : A) → (if b then Some x else None) ≡ Some y → (b ≡ true) × (x ≡ y)
chosen true x y e = (refl, cc)
chosen false x y e = cc

first_digit : (text : List ℕ) → (not (get_or text 0 0 == 48) || (length text == 1)) ≡ true → get_or text 0 0 ≡ 48 → length text ≡ 1
first_digit text e zero_first =
    ⊎_elim (λ t. let no : not (get_or text 0 0 == 48) ≡ false = rw zero_first refl in cc) (λ t. eqb-true _ _ t) (or_cases (not (get_or text 0 0 == 48)) (length text == 1) e)

-- what is taken for a number is its text
pub number_spelled : (most : ℕ) → most < 2 ^ 64 → (word : List ℕ) (k : ℕ) → number_up_to most word ≡ Some k → (word ≡ decimal k) × (k ≤ most)
unfolding number_up_to is_spelled
number_spelled most room word k e =
    let v = digits_value 10 word in
    let h = chosen _ v k e in
    let p = and_parts (is_spelled word) (nat_le v most) h.0 in
    let q = and_parts (list_all is_ascii_digit word) _ p.0 in
    let r = and_parts (nat_lt 0 (length word)) _ q.1 in
    let small : v ≤ most = leb-true _ _ p.1 in
    (sym (decimal-digits_value own word q.0 (ltb-true _ _ r.0) (first_digit word r.1) (omega (arith, small, room))) ∙ ap decimal h.1, subst (λ x. x ≤ most) h.1 small)

one_zero : (k : ℕ) → k < 2 ^ 64 → (not (get_or (decimal k) 0 0 == 48) || (length (decimal k) == 1)) ≡ true
one_zero k small =
    elim (cases_eq k 0) [
      | inl zero_is ↦
          let alone : length (decimal k) ≡ 1 = ap length (decimal_digit k (omega (arith, zero_is))) in
          or_right (not (get_or (decimal k) 0 0 == 48)) _ (eq-eqb _ _ alone)
      | inr some ↦
          let front = first_decimal k (omega (arith, some)) small in
          or_left (not (get_or (decimal k) 0 0 == 48)) (length (decimal k) == 1) (not_from_false (get_or (decimal k) 0 0 == 48) (ne_eqb (get_or (decimal k) 0 0) 48 (λ e. omega (arith, e, front))))
    ]

-- the text of a number is taken for it
pub number_back : (most : ℕ) → most < 2 ^ 64 → (k : ℕ) → k ≤ most → number_up_to most (decimal k) ≡ Some k
unfolding number_up_to is_spelled
number_back most room k few =
    let small : k < 2 ^ 64 = omega (arith, few, room) in
    let value : digits_value 10 (decimal k) ≡ k = digits_value-decimal own k small in
    let spelled = and_from (list_all is_ascii_digit (decimal k)) _ (digits_decimal own k small)
    (and_from (nat_lt 0 (length (decimal k))) _ (lt-ltb _ _ (decimal_nonempty k small)) (one_zero k small)) in
    let within : nat_le (digits_value 10 (decimal k)) most ≡ true = le-leb _ _ (subst (λ x. x ≤ most) (sym value) few) in
    cond-true _ _ _ (and_from (is_spelled (decimal k)) _ spelled within) ∙ ap Some value

none_is_some : (x : Option ℕ) (k : ℕ) → x ≡ None → x ≡ Some k → ⊥
none_is_some None k e f = cc
none_is_some (Some y) k e f = cc

-- what is taken for no number is the text of none
pub number_lost : (most : ℕ) → most < 2 ^ 64 → (word : List ℕ) → number_up_to most word ≡ None → (k : ℕ) → k ≤ most → word ≡ decimal k → ⊥
number_lost most room word e k few is = none_is_some (number_up_to most word) k e (ap (number_up_to most) is ∙ number_back most room k few)

-- an answer by the definition, in these words
pub told_spelled : (most : ℕ) → most < 2 ^ 64 → (word : List ℕ) (o : Option ℕ) → o ≡ number_up_to most word → IfSome o (λ n. word ≡ decimal n)
told_spelled most room word None e = tt
told_spelled most room word (Some k) e = (number_spelled most room word k (sym e)).0
