-- Digits, marks and fractions: what a place of a text tells, and what is read where a piece is written.
use Rattle.std.proofs.Common.{◌≡◌, ℕ, ◌+◌, ◌-◌, ◌*◌, ◌/◌, ◌%◌, ◌<◌, ◌≤◌, ◌⊎◌, zero, suc, inl, inr, true, false, ◌&&◌, ◌||◌, ◌==◌, nat_eq, List, [], ◌∷◌, ◌++◌, length, drop, slice_index, Some, None, refl, sym, ap, ◌∙◌, arith}
use Rattle.std.proofs.Math.Seq.{drop-cons}
use Rattle.std.proofs.lemmas.{Bool.and_parts, Bool.and_from, Bool.or_cases, Bool.cases_Bool, Bool.leb-true, Bool.le-leb, Bool.eqb-true, Bool.cond-true, Bool.cond-false, Option.cond_some, Option.option_and_then_some}
use Rattle.std.specs.{Option.option_and_then, Char.is_ascii_digit, Str.all_ascii_digits}
use Rattle.base_moment.specs.{Rfc3339.IsFraction, MomentOf.two_of, MomentOf.two_at, MomentOf.four_at, MomentOf.either_byte_at, MomentOf.after_digits, MomentOf.after_fraction}

digit_bounds : (b : ℕ) → is_ascii_digit b ≡ true → (48 ≤ b) × (b ≤ 57)
digit_bounds b t = let p = and_parts _ _ t in (leb-true 48 b p.0, leb-true b 57 p.1)

digit_holds : (d : ℕ) → d < 10 → is_ascii_digit (48 + d) ≡ true
digit_holds d h = and_from _ _ (le-leb 48 (48 + d) (omega arith)) (le-leb (48 + d) 57 (omega arith))

-- two digits as they are written are read as their number
pub two_reads : (n : ℕ) → n < 100 → two_of (48 + n / 10) (48 + n % 10) ≡ Some n
unfolding two_of
two_reads n h =
    cond-true _ (Some (10 * (48 + n / 10 - 48) + (48 + n % 10 - 48))) None (and_from _ _ (digit_holds (n / 10) (omega arith)) (digit_holds (n % 10) (omega arith)))
    ∙ ap Some (omega arith)

-- and what is read as a number is written so
pub two_tells : (a b n : ℕ) → two_of a b ≡ Some n → (n < 100) × (a ≡ 48 + n / 10) × (b ≡ 48 + n % 10)
unfolding two_of
two_tells a b n e =
    let p = cond_some (is_ascii_digit a && is_ascii_digit b) (10 * (a - 48) + (b - 48)) n e in
    let q = and_parts (is_ascii_digit a) (is_ascii_digit b) p.0 in
    let l = digit_bounds a q.0 in
    let r = digit_bounds b q.1 in
    (omega (arith, p.1), omega (arith, p.1), omega (arith, p.1))

pub four_reads : (n : ℕ) → n < 10000 → option_and_then (λ high. option_and_then (λ low. Some (100 * high + low)) (two_of (48 + n % 100 / 10) (48 + n % 100 % 10))) (two_of (48 + n / 100 / 10) (48 + n / 100 % 10)) ≡ Some n
four_reads n h = rw (two_reads (n / 100) (omega arith), two_reads (n % 100) (omega arith)) (ap Some (omega arith))

pub record IsFour (text : List ℕ) (place n : ℕ) : Type 0 where
  pub bound : n < 10000
  pub first : slice_index text place ≡ 48 + n / 100 / 10
  pub second : slice_index text (place + 1) ≡ 48 + n / 100 % 10
  pub third : slice_index text (place + 2) ≡ 48 + n % 100 / 10
  pub fourth : slice_index text (place + 2 + 1) ≡ 48 + n % 100 % 10

pub four_tells : (text : List ℕ) (place n : ℕ) → four_at text place ≡ Some n → IsFour text place n
four_tells text place n e =
    option_and_then_some _ (two_at text place) n e (λ high h e1.
    option_and_then_some _ (two_at text (place + 2)) n e1 (λ low l e2.
    let a = two_tells _ _ high h in
    let b = two_tells _ _ low l in
    let is : 100 * high + low ≡ n = cc in
    let front : n / 100 ≡ high = omega (arith, a.0, b.0) in
    let back : n % 100 ≡ low = omega (arith, a.0, b.0) in
    record {
      bound = omega (arith, a.0, b.0);
      first = rw front a.1;
      second = rw front a.2;
      third = rw back b.1;
      fourth = rw back b.2;
    }))

pub mark_tells : (text : List ℕ) (place one other : ℕ) (u : Unit {0}) → either_byte_at text place one other ≡ Some u → (slice_index text place ≡ one) ⊎ (slice_index text place ≡ other)
mark_tells text place one other u e =
    let p = cond_some ((slice_index text place == one) || (slice_index text place == other)) tt u e in
    elim (or_cases (slice_index text place == one) (slice_index text place == other) p.0) [
      | inl t ↦ inl (eqb-true _ _ t)
      | inr t ↦ inr (eqb-true _ _ t)
    ]

pub same_mark : (text : List ℕ) (place one : ℕ) (u : Unit {0}) → either_byte_at text place one one ≡ Some u → slice_index text place ≡ one
same_mark text place one u e = elim (mark_tells text place one one u e) [ inl t ↦ t | inr t ↦ t ]

-- a place with something other than 0 lies in the text
pub within : (text : List ℕ) (place : ℕ) → 0 < slice_index text place → place < length text
within [] place h = absurd (omega arith)
within (x ∷ xs) zero h = omega arith
within (x ∷ xs) (suc place) h = omega (arith, within xs place h)

-- the digits at the front, and what follows them
pub digits_split : (text : List ℕ) → (digits : List ℕ) × (all_ascii_digits digits ≡ true) × (text ≡ digits ++ after_digits text)
digits_split [] = ([], refl, refl)
digits_split (b ∷ bs) =
    elim (cases_Bool (is_ascii_digit b)) [
      | inl t ↦ let rest = digits_split bs in
          (b ∷ rest.0, and_from _ _ t rest.1, ap (λ (r : List ℕ). b ∷ r) (rest.2 ∙ ap (λ (r : List ℕ). rest.0 ++ r) (sym (cond-true (is_ascii_digit b) (after_digits bs) (b ∷ bs) t))))
      | inr f ↦ ([], refl, sym (cond-false (is_ascii_digit b) (after_digits bs) (b ∷ bs) f))
    ]

-- a text that begins with no digit and no point
pub record IsBare (text : List ℕ) : Type 0 where
  pub no_digit : is_ascii_digit (slice_index text 0) ≡ false
  pub no_point : nat_eq (slice_index text 0) 46 ≡ false

digits_skipped : (digits rest : List ℕ) → all_ascii_digits digits ≡ true → IsBare rest → after_digits (digits ++ rest) ≡ rest
digits_skipped [] [] t bare = refl
digits_skipped [] (b ∷ bs) t bare = cond-false (is_ascii_digit b) (after_digits bs) (b ∷ bs) bare.no_digit
digits_skipped (d ∷ ds) rest t bare =
    let p = and_parts (is_ascii_digit d) (all_ascii_digits ds) t in
    cond-true (is_ascii_digit d) (after_digits (ds ++ rest)) (d ∷ (ds ++ rest)) p.0 ∙ digits_skipped ds rest p.1 bare

-- a fraction is skipped
pub fraction_skipped : (fraction rest : List ℕ) → IsFraction fraction → IsBare rest → after_fraction (fraction ++ rest) ≡ rest
fraction_skipped fraction rest (inl e) bare =
    rw e (cond-false _ (after_digits (drop 2 rest)) rest (rw bare.no_point refl))
fraction_skipped fraction rest (inr ([], some, all, e)) bare = absurd (omega arith)
fraction_skipped fraction rest (inr (d ∷ ds, some, all, e)) bare =
    let p = and_parts (is_ascii_digit d) (all_ascii_digits ds) all in
    rw e (cond-true (is_ascii_digit d) (after_digits (ds ++ rest)) (46 ∷ (d ∷ (ds ++ rest))) p.0 ∙ digits_skipped ds rest p.1 bare)

-- and what is skipped is one
pub fraction_split : (text : List ℕ) → (fraction : List ℕ) × IsFraction fraction × (text ≡ fraction ++ after_fraction text)
fraction_split text =
    elim (cases_Bool ((slice_index text 0 == 46) && is_ascii_digit (slice_index text 1))) [
      | inl t ↦ let p = and_parts (slice_index text 0 == 46) (is_ascii_digit (slice_index text 1)) t in
          let digit = digit_bounds (slice_index text 1) p.1 in
          let long : 1 < length text = within text 1 (omega arith) in
          let rest = digits_split (drop 2 text) in
          let point = eqb-true (slice_index text 0) 46 p.0 in
          let first = drop-cons text 0 0 (omega arith) in
          let second = drop-cons text 1 0 long in
          let skipped = cond-true _ (after_digits (drop 2 text)) text t in
          (46 ∷ (slice_index text 1 ∷ rest.0), inr (slice_index text 1 ∷ rest.0, omega arith, and_from _ _ p.1 rest.1, refl), rw skipped (cc))
      | inr f ↦ ([], inl refl, sym (cond-false _ (after_digits (drop 2 text)) text f))
    ]
