-- The text of a zone against its reading, both ways.
use Rattle.std.proofs.Common.{◌≡◌, ℕ, ◌⊎◌, inl, inr, ◌==◌, if◌then◌else◌, List, [], ◌∷◌, length, slice_index, Some, None, refl, sym, ap, ◌∙◌, arith, subst}
use Rattle.std.proofs.lemmas.{Bool.cases_Bool, Bool.eqb-true, Bool.cond-true, Bool.cond-false, Option.cond_some, Option.option_and_then_some, Option.same_Some, Option.none-some}
use Rattle.std.specs.Option.{option_and_then}
use Rattle.base_moment.specs.{declared.stamp.Zone.Zone, declared.stamp.Zone.TheVariants.Utc, declared.stamp.Zone.TheVariants.Ahead, declared.stamp.Zone.TheVariants.Behind, Rfc3339.IsZoneText, Rfc3339.IsOffset}
use Rattle.base_moment.specs.{MomentOf.two_at, MomentOf.either_byte_at, MomentOf.signed, MomentOf.numeric_zone, MomentOf.zone_of}
use Rattle.base_moment.proofs.Pieces.{two_reads, two_tells, mark_tells, same_mark, IsBare}

-- a zone as it is written is read
pub zone_reads : (z : Zone) (text : List ℕ) → IsZoneText z text → IsOffset z → zone_of text ≡ Some z
unfolding zone_of
zone_reads Utc text (inl e) h = rw e refl
zone_reads Utc text (inr e) h = rw e refl
zone_reads (Ahead hours minutes) text e h = rw e (rw (two_reads hours (omega arith), two_reads minutes (omega arith)) refl)
zone_reads (Behind hours minutes) text e h = rw e (rw (two_reads hours (omega arith), two_reads minutes (omega arith)) refl)

-- its text begins with no digit and no point
pub zone_bare : (z : Zone) (text : List ℕ) → IsZoneText z text → IsBare text
zone_bare Utc text (inl e) = rw e (record { no_digit = refl; no_point = refl })
zone_bare Utc text (inr e) = rw e (record { no_digit = refl; no_point = refl })
zone_bare (Ahead hours minutes) text e = rw e (record { no_digit = refl; no_point = refl })
zone_bare (Behind hours minutes) text e = rw e (record { no_digit = refl; no_point = refl })

one_byte : (text : List ℕ) → length text ≡ 1 → text ≡ slice_index text 0 ∷ []
one_byte [] e = absurd (omega arith)
one_byte (a ∷ []) e = refl
one_byte (a ∷ (b ∷ rest)) e = absurd (omega arith)

nothing_left : (text : List ℕ) → length text ≡ 0 → text ≡ []
nothing_left [] e = refl
nothing_left (a ∷ rest) e = absurd (omega arith)

six_bytes : (text : List ℕ) → length text ≡ 6 → text ≡ slice_index text 0 ∷ (slice_index text 1 ∷ (slice_index text 2 ∷ (slice_index text 3 ∷ (slice_index text 4 ∷ (slice_index text 5 ∷ [])))))
six_bytes [] e = absurd (omega arith)
six_bytes (a ∷ []) e = absurd (omega arith)
six_bytes (a ∷ (b ∷ [])) e = absurd (omega arith)
six_bytes (a ∷ (b ∷ (c ∷ []))) e = absurd (omega arith)
six_bytes (a ∷ (b ∷ (c ∷ (d ∷ [])))) e = absurd (omega arith)
six_bytes (a ∷ (b ∷ (c ∷ (d ∷ (f ∷ []))))) e = absurd (omega arith)
six_bytes (a ∷ (b ∷ (c ∷ (d ∷ (f ∷ (g ∷ rest)))))) e =
    ap (λ (r : List ℕ). a ∷ (b ∷ (c ∷ (d ∷ (f ∷ (g ∷ r)))))) (nothing_left rest (omega arith))

signed_tells : (sign hours minutes : ℕ) (z : Zone) → signed sign hours minutes ≡ Some z → ((sign ≡ 43) × (z ≡ Ahead hours minutes)) ⊎ ((sign ≡ 45) × (z ≡ Behind hours minutes))
signed_tells sign hours minutes z e =
    elim (cases_Bool (sign == 43)) [
      | inl t ↦ inl (eqb-true sign 43 t, same_Some z (Ahead hours minutes) (sym e ∙ cond-true (sign == 43) (Some (Ahead hours minutes)) (if◌then◌else◌ (sign == 45) (Some (Behind hours minutes)) None) t))
      | inr f ↦ let last = sym (cond-false (sign == 43) (Some (Ahead hours minutes)) (if◌then◌else◌ (sign == 45) (Some (Behind hours minutes)) None) f) ∙ e in
          let p = cond_some (sign == 45) (Behind hours minutes) z last in
          inr (eqb-true sign 45 p.0, sym p.1)
    ]

numeric_tells : (text : List ℕ) (z : Zone) → length text ≡ 6 → numeric_zone text ≡ Some z → IsZoneText z text
numeric_tells text z six e =
    option_and_then_some _ (two_at text 1) z e (λ hours h e1.
    option_and_then_some _ (either_byte_at text 3 58 58) z e1 (λ colon c e2.
    option_and_then_some _ (two_at text 4) z e2 (λ minutes m e3.
    let a = two_tells (slice_index text 1) (slice_index text 2) hours h in
    let b = two_tells (slice_index text 4) (slice_index text 5) minutes m in
    let k = same_mark text 3 58 colon c in
    let all = six_bytes text six in
    let P : Zone → Type 0 = λ y. IsZoneText y text in
    elim (signed_tells (slice_index text 0) hours minutes z e3) [
      | inl p ↦ subst P (sym p.1) (cc (p.0, a.1, a.2, b.1, b.2, k, all))
      | inr p ↦ subst P (sym p.1) (cc (p.0, a.1, a.2, b.1, b.2, k, all))
    ])))

-- and what is read as a zone is written so
pub zone_tells : (text : List ℕ) (z : Zone) → zone_of text ≡ Some z → IsZoneText z text
unfolding zone_of
zone_tells text z e =
    elim (cases_Bool (length text == 1)) [
      | inl t ↦ let one = one_byte text (eqb-true (length text) 1 t) in
          let utc = sym (cond-true (length text == 1) (option_and_then (λ u. Some Utc) (either_byte_at text 0 90 122)) (if◌then◌else◌ (length text == 6) (numeric_zone text) None) t) ∙ e in
          option_and_then_some _ (either_byte_at text 0 90 122) z utc (λ u m is.
          let P : Zone → Type 0 = λ y. IsZoneText y text in
          subst P (same_Some Utc z is) (elim (mark_tells text 0 90 122 u m) [ inl k ↦ inl (one ∙ ap (λ (b : ℕ). b ∷ []) k) | inr k ↦ inr (one ∙ ap (λ (b : ℕ). b ∷ []) k) ]))
      | inr f ↦ let rest = sym (cond-false (length text == 1) (option_and_then (λ u. Some Utc) (either_byte_at text 0 90 122)) (if◌then◌else◌ (length text == 6) (numeric_zone text) None) f) ∙ e in
          elim (cases_Bool (length text == 6)) [
            | inl t ↦ numeric_tells text z (eqb-true (length text) 6 t) (sym (cond-true (length text == 6) (numeric_zone text) None t) ∙ rest)
            | inr g ↦ absurd (none-some z (sym (cond-false (length text == 6) (numeric_zone text) None g) ∙ rest))
          ]
    ]
