-- What the code that reads a duration's text does, in the words of `seconds_of_text`.
use Rattle.std.proofs.Common.{◌⊎◌, ◌≡◌, ◌≢◌, ℕ, ◌+◌, ◌-◌, ◌<◌, ◌^◌, true, false, List, [], ◌∷◌, ◌++◌, length, take, get_or, Result, Ok, Err, Option, Some, None, MatchOption, unwrap_or, Bor, refl, sym, ap, ◌∙◌, inl, inr, arith, rules, nat_lt, nat_eq, ◌&&◌, eqb-true, lt-ltb, ltb-true, length-append}
use Rattle.std.proofs.Math.Seq.{take-append_seam, get_or-append_seam, take-length}
use Rattle.std.proofs.lemmas.{Bool.cases_Bool, Bool.and_parts, List.take_more, Str.Parse.IsNumeralModel, Str.Parse.numerals_by_value, Str.Parse.parse_digits}
use Rattle.std.specs.{Char.is_ascii_digit, List.list_all, Result.result_ok, Result.OkIff, Str.Parse.digits_value, Str.Parse.ParsesUnsigned}
use Rattle.vault_json.specs.Duration.{without_unit, seconds_of_digits}

pub own : IsNumeralModel (λ ds. list_all is_ascii_digit ds ≡ true) (digits_value 10)
own = numerals_by_value _ (search rules)

-- a text with a unit, and one without
pub cut_unit : (text front : List ℕ) → text ≡ front ++ (115 ∷ []) → without_unit text ≡ front
unfolding without_unit
cut_unit text front e =
    let last : length (front ++ 115 ∷ []) - 1 ≡ length front = omega (arith, length-append front (115 ∷ [])) in
    rw (e, last, get_or-append_seam front 115 [] 0, take-append_seam front (115 ∷ [])) refl

some_bytes : (text : List ℕ) → get_or text (length text - 1) 0 ≡ 115 → 0 < length text
some_bytes [] e = absurd (omega arith)
some_bytes (byte ∷ bytes) e = omega arith

with_last : (text : List ℕ) → 0 < length text → text ≡ take (length text - 1) text ++ (get_or text (length text - 1) 0 ∷ [])
with_last text some =
    let end : length text - 1 + 1 ≡ length text = omega arith in
    sym (take-length text) ∙ ap (λ n. take n text) (sym end) ∙ take_more text (length text - 1) 0 (omega arith)

pub no_unit : (text : List ℕ) → ((front : List ℕ) → text ≢ front ++ (115 ∷ [])) → without_unit text ≡ text
unfolding without_unit
no_unit text none =
    elim (cases_Bool (nat_eq (get_or text (length text - 1) 0) 115)) [
      | inl t ↦
          let last : get_or text (length text - 1) 0 ≡ 115 = eqb-true _ _ t in
          absurd (none (take (length text - 1) text) (with_last text (some_bytes text last) ∙ ap (λ b. take (length text - 1) text ++ (b ∷ [])) last))
      | inr f ↦ rw f refl
    ]

-- what `parse` gives for digits
given : {E : Type 0} (text : List ℕ) (r : Result ℕ E) → list_all is_ascii_digit text ≡ true
    → OkIff r ((0 < length text) × (digits_value 10 text < 2 ^ 32)) (digits_value 10 text) → result_ok r ≡ seconds_of_digits text
unfolding seconds_of_digits
given text (Ok n) digits p = rw (digits, lt-ltb _ _ p.0.0, lt-ltb _ _ p.0.1) (ap Some p.1)
given text (Err e) digits p =
    elim (cases_Bool (nat_lt 0 (length text) && nat_lt (digits_value 10 text) (2 ^ 32))) [
      | inl t ↦ let q = and_parts (nat_lt 0 (length text)) (nat_lt (digits_value 10 text) (2 ^ 32)) t in absurd (p (ltb-true _ _ q.0, ltb-true _ _ q.1))
      | inr f ↦ rw (digits, f) refl
    ]

pub parsed : {E : Type 0} (text : List ℕ) (r : Result ℕ E) → ParsesUnsigned 32 10 text r → list_all is_ascii_digit text ≡ true → result_ok r ≡ seconds_of_digits text
parsed {E = E} text r h digits = given text r digits (parse_digits own {E = E} 32 text r h digits)

pub not_parsed : (text : List ℕ) → list_all is_ascii_digit text ≡ false → seconds_of_digits text ≡ None
unfolding seconds_of_digits
not_parsed text e = rw e refl

-- what `strip_suffix` and `unwrap_or` give
pub stripped : (text : Bor (List ℕ)) (r : Option (Bor (List ℕ)))
    → MatchOption r ((front : List ℕ) → text.now ≢ front ++ (115 ∷ [])) (λ x. text.now ≡ x.now ++ (115 ∷ [])) → (unwrap_or r text).now ≡ without_unit text.now
stripped text None h = sym (no_unit text.now h)
stripped text (Some x) h = sym (cut_unit text.now x.now h)

-- a text is what is left of it, or that and an `s`
pub unit_or_none : (text : List ℕ) → (without_unit text ≡ text) ⊎ (text ≡ without_unit text ++ (115 ∷ []))
unfolding without_unit
unit_or_none text =
    elim (cases_Bool (nat_eq (get_or text (length text - 1) 0) 115)) [
      | inl t ↦
          let last : get_or text (length text - 1) 0 ≡ 115 = eqb-true _ _ t in
          inr (rw t (with_last text (some_bytes text last) ∙ ap (λ b. take (length text - 1) text ++ (b ∷ [])) last))
      | inr f ↦ inl (rw f refl)
    ]
