-- A duration is read exactly where it is written.
use Rattle.std.proofs.Common.{◌≡◌, ◌≢◌, ℕ, ◌<◌, ◌^◌, inl, inr, Bool, true, false, ◌&&◌, List, [], ◌∷◌, ◌++◌, length, nat_lt, if◌then◌else◌, Some, None, refl, sym, ap, ◌∙◌, subst, lt-ltb, ltb-true}
use Rattle.std.proofs.lemmas.{Bool.and_parts, List.Folds.list_all-append}
use Rattle.std.specs.{Char.is_ascii_digit, List.list_all, Str.Parse.digits_value}
use Rattle.serde_json.specs.Data.{Num, unsigned, negative, float, Data, null, boolean, number, string, array, object}
use Rattle.vault_json.specs.{Duration.without_unit, Duration.seconds_of_digits, Duration.seconds_of_text, Duration.seconds_of_number, Duration.duration_of_value, Duration.AreDigitsOf, Duration.WritesDuration, Laws.DurationsAreRead}
use Rattle.vault_json.proofs.Durations.{cut_unit, no_unit, unit_or_none}

-- ---- what is read is written

chosen : (b : Bool) (m n : ℕ) → (if b then Some m else None) ≡ Some n → (b ≡ true) × (m ≡ n)
chosen true m n e = (refl, cc)
chosen false m n e = cc

number_written : (x : Num) (n : ℕ) → seconds_of_number x ≡ Some n → WritesDuration (number x) n
number_written (unsigned m) n e =
    let c = chosen (nat_lt m (2 ^ 32)) m n e in
    (subst (λ k. k < 2 ^ 32) c.1 (ltb-true m (2 ^ 32) c.0), inl (ap (λ k. number (unsigned k)) c.1))
number_written (negative z) n e = cc
number_written (float x) n e = cc

digits_written : (text : List ℕ) (n : ℕ) → seconds_of_digits text ≡ Some n → AreDigitsOf text n × (n < 2 ^ 32)
unfolding seconds_of_digits
digits_written text n e =
    let c = chosen (list_all is_ascii_digit text && (nat_lt 0 (length text) && nat_lt (digits_value 10 text) (2 ^ 32))) (digits_value 10 text) n e in
    let p = and_parts (list_all is_ascii_digit text) (nat_lt 0 (length text) && nat_lt (digits_value 10 text) (2 ^ 32)) c.0 in
    let q = and_parts (nat_lt 0 (length text)) (nat_lt (digits_value 10 text) (2 ^ 32)) p.1 in
    ((p.0, ltb-true _ _ q.0, c.1), subst (λ k. k < 2 ^ 32) c.1 (ltb-true _ _ q.1))

text_written : (text : List ℕ) (n : ℕ) → seconds_of_text text ≡ Some n → WritesDuration (string text) n
unfolding seconds_of_text
text_written text n e =
    let d = digits_written (without_unit text) n e in
    (d.1, inr (without_unit text, d.0, elim (unit_or_none text) [ inl same ↦ inl (ap string (sym same)) | inr cut ↦ inr (ap string cut) ]))

written : (d : Data) (n : ℕ) → duration_of_value d ≡ Some n → WritesDuration d n
written null n e = cc
written (boolean b) n e = cc
written (number x) n e = number_written x n e
written (string s) n e = text_written s n e
written (array ds) n e = cc
written (object ms) n e = cc

-- ---- what is written is read

digits_read : (digits : List ℕ) (n : ℕ) → AreDigitsOf digits n → n < 2 ^ 32 → seconds_of_digits digits ≡ Some n
unfolding seconds_of_digits
digits_read digits n h small = rw (h.0, lt-ltb 0 (length digits) h.1, h.2, lt-ltb n (2 ^ 32) small) refl

-- digits end in no `s`
no_unit_after : (digits front : List ℕ) → list_all is_ascii_digit digits ≡ true → digits ≢ front ++ (115 ∷ [])
no_unit_after digits front all e =
    let p = and_parts (list_all is_ascii_digit front) (list_all is_ascii_digit (115 ∷ [])) (sym (list_all-append is_ascii_digit front (115 ∷ [])) ∙ ap (list_all is_ascii_digit) (sym e) ∙ all) in
    cc (p.1)

text_read : (digits text : List ℕ) (n : ℕ) → AreDigitsOf digits n → n < 2 ^ 32 → without_unit text ≡ digits → duration_of_value (string text) ≡ Some n
unfolding seconds_of_text
text_read digits text n h small cut = ap seconds_of_digits cut ∙ digits_read digits n h small

read : (d : Data) (n : ℕ) → WritesDuration d n → duration_of_value d ≡ Some n
read d n (small, way) =
    elim way [
      | inl is ↦ rw is (rw (lt-ltb n (2 ^ 32) small) refl)
      | inr (digits, h, form) ↦ elim form [
        | inl plain ↦ rw plain (text_read digits digits n h small (no_unit digits (λ front. no_unit_after digits front h.0)))
        | inr unit ↦ rw unit (text_read digits (digits ++ 115 ∷ []) n h small (cut_unit (digits ++ 115 ∷ []) digits refl))
      ]
    ]

pub durations_are_read : DurationsAreRead
durations_are_read d seconds = (written d seconds, read d seconds)
