-- A time from now: what is read of a word is what it says, and each is read.
use Rattle.std.proofs.Common.{◌≡◌, inl, inr, ℕ, ◌+◌, ◌-◌, ◌*◌, ◌<◌, ◌≤◌, true, false, ◌&&◌, List, [], ◌∷◌, ◌++◌, length, take, get_or, nat_lt, nat_le, Some, refl, sym, ap, ◌∙◌, subst, arith, length-append, lt-ltb, ltb-true, le-leb}
use Rattle.std.proofs.Math.Seq.{take-append_seam, get_or-append_seam, take-length}
use Rattle.std.proofs.lemmas.{List.append-nil, List.take_more, List.Folds.list_all-append, Str.Parse.digits_value_short}
use Rattle.std.proofs.lemmas.Bool.{and_from, and_parts, cases_Bool, cases_eq, cond-true, cond-false, leb-true, ne_eqb}
use Rattle.std.specs.{Char.is_ascii_digit, List.list_all, Str.Parse.digits_value}
use Rattle.base_words.proofs.Digits.{own}
use Rattle.base_moment.specs.declared.moment.TheConstants.{LAST}
use Rattle.agent_control.specs.Laws.{AreDigits, IsUnit}
use Rattle.agent_control.specs.When.{but_last, is_number, last_byte, seconds_each, span_of, unit_seconds}
use Rattle.agent_control.proofs.Chosen.{passed, some_same}

-- ---- numbers

pub number_parts : (text : List ℕ) → is_number text ≡ true → AreDigits text (digits_value 10 text)
unfolding is_number
number_parts text h =
    let p = and_parts (nat_lt 0 (length text)) _ h in
    let q = and_parts (nat_le (length text) 12) (list_all is_ascii_digit text) p.1 in
    (ltb-true _ _ p.0, leb-true _ _ q.0, q.1, refl)

pub digits_number : (text : List ℕ) (n : ℕ) → AreDigits text n → is_number text ≡ true
unfolding is_number
digits_number text n d = and_from (nat_lt 0 (length text)) _ (lt-ltb _ _ d.0) (and_from (nat_le (length text) 12) (list_all is_ascii_digit text) (le-leb _ _ d.1) d.2)

-- twelve digits are a number below 1,000,000,000,000
pub twelve_digits : (text : List ℕ) → is_number text ≡ true → digits_value 10 text < 1000000000000
twelve_digits text h = let d = number_parts text h in digits_value_short own text 12 d.2 d.1

pub each_found : (size : ℕ) (text : List ℕ) (n : ℕ) → seconds_each size text ≡ Some n
    → (0 < size) × AreDigits text (digits_value 10 text) × (n ≡ digits_value 10 text * size) × (n ≤ LAST)
unfolding seconds_each
each_found size text n e =
    let p = passed (nat_lt 0 size && is_number text) _ n e in
    let q = and_parts (nat_lt 0 size) (is_number text) p.0 in
    let r = passed (nat_le (digits_value 10 text * size) LAST) _ n p.1 in
    let is : digits_value 10 text * size ≡ n = some_same _ _ r.1 in
    (ltb-true _ _ q.0, number_parts text q.1, sym is, subst (λ k. k ≤ LAST) is (leb-true _ _ r.0))

pub each_only : (size : ℕ) (text : List ℕ) (count : ℕ) → 0 < size → AreDigits text count → count * size ≤ LAST → seconds_each size text ≡ Some (count * size)
unfolding seconds_each
each_only size text count some d few =
    let value : digits_value 10 text ≡ count = d.3 in
    let within : nat_le (digits_value 10 text * size) LAST ≡ true = ap (λ v. nat_le (v * size) LAST) value ∙ le-leb _ _ few in
    cond-true (nat_lt 0 size && is_number text) _ _ (and_from (nat_lt 0 size) (is_number text) (lt-ltb _ _ some) (digits_number text count d))
    ∙ cond-true (nat_le (digits_value 10 text * size) LAST) _ _ within
    ∙ ap (λ v. Some (v * size)) value

-- ---- units

pub unit_found : (x : ℕ) → 0 < unit_seconds x → IsUnit (x ∷ []) (unit_seconds x)
unit_found x some =
    elim (cases_eq x 115) [
      | inl e ↦ rw e (inr (inl (refl, refl)))
      | inr s ↦ elim (cases_eq x 109) [
        | inl e ↦ rw e (inr (inr (inl (refl, refl))))
        | inr m ↦ elim (cases_eq x 104) [
          | inl e ↦ rw e (inr (inr (inr (inl (refl, refl)))))
          | inr h ↦ elim (cases_eq x 100) [
            | inl e ↦ rw e (inr (inr (inr (inr (refl, refl)))))
            | inr d ↦ absurd (let none : unit_seconds x ≡ 0 = rw (ne_eqb x 115 s, ne_eqb x 109 m, ne_eqb x 104 h, ne_eqb x 100 d) refl in omega (arith, some, none))
          ]
        ]
      ]
    ]

some_bytes : (text : List ℕ) → 0 < length (but_last text) → 0 < length text
some_bytes [] h = absurd (omega (arith, h))
some_bytes (x ∷ xs) h = omega arith

pub with_last : (text : List ℕ) → 0 < length text → text ≡ but_last text ++ last_byte text ∷ []
with_last text some =
    let end : length text - 1 + 1 ≡ length text = omega (arith, some) in
    sym (take-length text) ∙ ap (λ n. take n text) (sym end) ∙ take_more text (length text - 1) 0 (omega (arith, some))

-- a number, and a unit or none
pub record Parts (text : List ℕ) (n : ℕ) : Type 0 where
  pub digits : List ℕ
  pub count : ℕ
  pub are_digits : AreDigits digits count
  pub unit : List ℕ
  pub size : ℕ
  pub is_unit : IsUnit unit size
  pub is : text ≡ digits ++ unit
  pub product : n ≡ count * size
  pub few : n ≤ LAST

pub span_found : (text : List ℕ) (n : ℕ) → span_of text ≡ Some n → Parts text n
unfolding span_of
span_found text n e =
    elim (cases_Bool (is_number text)) [
      | inl holds ↦
          let f = each_found 1 text n (sym (cond-true (is_number text) _ _ holds) ∙ e) in
          record { digits = text; count = digits_value 10 text; are_digits = f.1; unit = []; size = 1; is_unit = inl (refl, refl); is = sym (append-nil text); product = f.2; few = f.3 }
      | inr fails ↦
          let f = each_found (unit_seconds (last_byte text)) (but_last text) n (sym (cond-false (is_number text) _ _ fails) ∙ e) in
          record {
            digits = but_last text;
            count = digits_value 10 (but_last text);
            are_digits = f.1;
            unit = last_byte text ∷ [];
            size = unit_seconds (last_byte text);
            is_unit = unit_found (last_byte text) f.0;
            is = with_last text (some_bytes text (f.1.0));
            product = f.2;
            few = f.3;
          }
    ]

not_number : (digits : List ℕ) (letter : ℕ) → is_ascii_digit letter ≡ false → is_number (digits ++ letter ∷ []) ≡ false
not_number digits letter other =
    elim (cases_Bool (is_number (digits ++ letter ∷ []))) [
      | inl holds ↦
          let all = (number_parts (digits ++ letter ∷ []) holds).2 in
          let p = and_parts (list_all is_ascii_digit digits) (list_all is_ascii_digit (letter ∷ [])) (sym (list_all-append is_ascii_digit digits (letter ∷ [])) ∙ all) in
          let q = and_parts (is_ascii_digit letter) true p.1 in
          let both : true ≡ false = sym q.0 ∙ other in
          cc
      | inr fails ↦ fails
    ]

with_letter : (digits : List ℕ) (count letter size : ℕ) → AreDigits digits count → is_ascii_digit letter ≡ false → unit_seconds letter ≡ size → 0 < size → count * size ≤ LAST
    → span_of (digits ++ letter ∷ []) ≡ Some (count * size)
unfolding span_of
with_letter digits count letter size d other is some few =
    let last : length (digits ++ letter ∷ []) - 1 ≡ length digits = omega (arith, length-append digits (letter ∷ [])) in
    let front : but_last (digits ++ letter ∷ []) ≡ digits = ap (λ k. take k (digits ++ letter ∷ [])) last ∙ take-append_seam digits (letter ∷ []) in
    let byte : last_byte (digits ++ letter ∷ []) ≡ letter = ap (λ k. get_or (digits ++ letter ∷ []) k 0) last ∙ get_or-append_seam digits letter [] 0 in
    cond-false (is_number (digits ++ letter ∷ [])) _ _ (not_number digits letter other)
    ∙ ap (λ x. seconds_each (unit_seconds x) (but_last (digits ++ letter ∷ []))) byte
    ∙ ap (λ t. seconds_each (unit_seconds letter) t) front
    ∙ ap (λ k. seconds_each k digits) is
    ∙ each_only size digits count some d few

pub span_only : (digits unit : List ℕ) (count size : ℕ) → AreDigits digits count → IsUnit unit size → count * size ≤ LAST → span_of (digits ++ unit) ≡ Some (count * size)
unfolding span_of
span_only digits unit count size d is few =
    elim is [
      | inl none ↦
          rw (none.0, append-nil digits) (cond-true (is_number digits) _ _ (digits_number digits count d) ∙ each_only 1 digits count (omega arith) d (subst (λ k. count * k ≤ LAST) none.1 few) ∙ ap (λ k. Some (count * k)) (sym none.1))
      | inr more ↦ elim more [
        | inl s ↦ rw s.0 (with_letter digits count 115 size d refl (sym s.1) (subst (λ k. 0 < k) (sym s.1) (omega arith)) few)
        | inr more2 ↦ elim more2 [
          | inl m ↦ rw m.0 (with_letter digits count 109 size d refl (sym m.1) (subst (λ k. 0 < k) (sym m.1) (omega arith)) few)
          | inr more3 ↦ elim more3 [
            | inl h ↦ rw h.0 (with_letter digits count 104 size d refl (sym h.1) (subst (λ k. 0 < k) (sym h.1) (omega arith)) few)
            | inr t ↦ rw t.0 (with_letter digits count 100 size d refl (sym t.1) (subst (λ k. 0 < k) (sym t.1) (omega arith)) few)
          ]
        ]
      ]
    ]
