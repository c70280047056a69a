-- The text of a stamp against its reading, both ways.
use Rattle.std.proofs.Common.{◌≡◌, ℕ, ◌+◌, ◌/◌, ◌%◌, ◌<◌, ◌⊎◌, inl, inr, List, ◌∷◌, ◌++◌, length, drop, slice_index, Some, pos, refl, sym, ap, ◌∙◌, arith, subst}
use Rattle.std.proofs.Math.Seq.{drop-cons}
use Rattle.std.proofs.lemmas.Option.{option_and_then_some, same_Some}
use Rattle.jiff_core.proofs.{SignedLemmas.signed_arith, CalendarLemmas.days_in_month_bounds}
use Rattle.base_moment.specs.{declared.stamp.Stamp.Stamp, Rfc3339.IsDateTime, Rfc3339.WritesDate, Rfc3339.IsZoneText, Rfc3339.face}
use Rattle.base_moment.specs.{MomentOf.two_at, MomentOf.four_at, MomentOf.either_byte_at, MomentOf.after_fraction, MomentOf.zone_of, MomentOf.stamp_of}
use Rattle.base_moment.proofs.Pieces.{two_reads, two_tells, four_reads, four_tells, IsFour, mark_tells, same_mark, within, fraction_skipped, fraction_split}
use Rattle.base_moment.proofs.Zones.{zone_reads, zone_bare, zone_tells}

-- what the places of a text tell together
stamp_from_places : (text : List ℕ) (s : Stamp) → four_at text 0 ≡ Some s.year → either_byte_at text 4 45 45 ≡ Some tt → two_at text 5 ≡ Some s.month → either_byte_at text 7 45 45 ≡ Some tt → two_at text 8 ≡ Some s.day → either_byte_at text 10 84 116 ≡ Some tt → two_at text 11 ≡ Some s.hour → either_byte_at text 13 58 58 ≡ Some tt → two_at text 14 ≡ Some s.minute → either_byte_at text 16 58 58 ≡ Some tt → two_at text 17 ≡ Some s.second → zone_of (after_fraction (drop 19 text)) ≡ Some s.zone → stamp_of text ≡ Some s
unfolding stamp_of
stamp_from_places text s year dash month dash_2 day between hour colon minute colon_2 second zone =
    rw (year, dash, month, dash_2, day, between, hour, colon, minute, colon_2, second, zone) refl

mark_between : (s : Stamp) (between : ℕ) (rest : List ℕ) → (between ≡ 84) ⊎ (between ≡ 116) → either_byte_at (face s between ++ rest) 10 84 116 ≡ Some tt
mark_between s between rest (inl e) = rw e refl
mark_between s between rest (inr e) = rw e refl

-- a text that writes a stamp is read as that stamp
pub stamp_reads : (text : List ℕ) (s : Stamp) → WritesDate text s → IsDateTime s → stamp_of text ≡ Some s
stamp_reads text s w h =
    let written = face s w.between ++ (w.fraction ++ w.zone) in
    let year : s.year < 10000 = omega (arith, signed_arith, h.date.0.1) in
    let month : s.month < 100 = omega (arith, h.date.1.1) in
    let day : s.day < 100 = omega (arith, h.date.2.1, days_in_month_bounds (pos s.year) s.month) in
    let hour : s.hour < 100 = omega (arith, h.hour) in
    let minute : s.minute < 100 = omega (arith, h.minute) in
    let second : s.second < 100 = omega (arith, h.second) in
    let zone : zone_of (after_fraction (w.fraction ++ w.zone)) ≡ Some s.zone = rw (fraction_skipped w.fraction w.zone w.is_fraction (zone_bare s.zone w.zone w.is_zone)) (zone_reads s.zone w.zone w.is_zone h.offset) in
    let P : List ℕ → Type 0 = λ t. stamp_of t ≡ Some s in
    subst P (sym w.is) (stamp_from_places written s (four_reads s.year year) refl (two_reads s.month month) refl (two_reads s.day day) (mark_between s w.between (w.fraction ++ w.zone) w.is_t) (two_reads s.hour hour) refl (two_reads s.minute minute) refl (two_reads s.second second) zone)

-- a text of nineteen bytes or more, byte by byte
front : (text : List ℕ) → 18 < length text → text ≡ slice_index text 0 ∷ (slice_index text 1 ∷ (slice_index text 2 ∷ (slice_index text 3 ∷ (slice_index text 4 ∷ (slice_index text 5 ∷ (slice_index text 6 ∷ (slice_index text 7 ∷ (slice_index text 8 ∷ (slice_index text 9 ∷ (slice_index text 10 ∷ (slice_index text 11 ∷ (slice_index text 12 ∷ (slice_index text 13 ∷ (slice_index text 14 ∷ (slice_index text 15 ∷ (slice_index text 16 ∷ (slice_index text 17 ∷ (slice_index text 18 ∷ drop 19 text))))))))))))))))))
front text h =
    drop-cons text 0 0 (omega arith) ∙ ap (λ (r : List ℕ). slice_index text 0 ∷ r) (drop-cons text 1 0 (omega arith) ∙ ap (λ (r : List ℕ). slice_index text 1 ∷ r) (drop-cons text 2 0 (omega arith) ∙ ap (λ (r : List ℕ). slice_index text 2 ∷ r) (drop-cons text 3 0 (omega arith) ∙ ap (λ (r : List ℕ). slice_index text 3 ∷ r) (drop-cons text 4 0 (omega arith) ∙ ap (λ (r : List ℕ). slice_index text 4 ∷ r) (drop-cons text 5 0 (omega arith) ∙ ap (λ (r : List ℕ). slice_index text 5 ∷ r) (drop-cons text 6 0 (omega arith) ∙ ap (λ (r : List ℕ). slice_index text 6 ∷ r) (drop-cons text 7 0 (omega arith) ∙ ap (λ (r : List ℕ). slice_index text 7 ∷ r) (drop-cons text 8 0 (omega arith) ∙ ap (λ (r : List ℕ). slice_index text 8 ∷ r) (drop-cons text 9 0 (omega arith) ∙ ap (λ (r : List ℕ). slice_index text 9 ∷ r) (drop-cons text 10 0 (omega arith) ∙ ap (λ (r : List ℕ). slice_index text 10 ∷ r) (drop-cons text 11 0 (omega arith) ∙ ap (λ (r : List ℕ). slice_index text 11 ∷ r) (drop-cons text 12 0 (omega arith) ∙ ap (λ (r : List ℕ). slice_index text 12 ∷ r) (drop-cons text 13 0 (omega arith) ∙ ap (λ (r : List ℕ). slice_index text 13 ∷ r) (drop-cons text 14 0 (omega arith) ∙ ap (λ (r : List ℕ). slice_index text 14 ∷ r) (drop-cons text 15 0 (omega arith) ∙ ap (λ (r : List ℕ). slice_index text 15 ∷ r) (drop-cons text 16 0 (omega arith) ∙ ap (λ (r : List ℕ). slice_index text 16 ∷ r) (drop-cons text 17 0 (omega arith) ∙ ap (λ (r : List ℕ). slice_index text 17 ∷ r) (drop-cons text 18 0 h))))))))))))))))))

abbrev IsTwo : List ℕ → ℕ → ℕ → Type 0
IsTwo text place n = (n < 100) × (slice_index text place ≡ 48 + n / 10) × (slice_index text (place + 1) ≡ 48 + n % 10)

writes_from_places : (text : List ℕ) (s : Stamp) → IsFour text 0 s.year → slice_index text 4 ≡ 45 → IsTwo text 5 s.month → slice_index text 7 ≡ 45 → IsTwo text 8 s.day → (slice_index text 10 ≡ 84) ⊎ (slice_index text 10 ≡ 116) → IsTwo text 11 s.hour → slice_index text 13 ≡ 58 → IsTwo text 14 s.minute → slice_index text 16 ≡ 58 → IsTwo text 17 s.second → IsZoneText s.zone (after_fraction (drop 19 text)) → WritesDate text s
writes_from_places text s year m1 month m2 day m3 hour m4 minute m5 second zone =
    let long : 18 < length text = within text 18 (omega (arith, second.2)) in
    let tail = fraction_split (drop 19 text) in
    record {
      between = slice_index text 10;
      fraction = tail.0;
      zone = after_fraction (drop 19 text);
      is_t = m3;
      is_fraction = tail.1;
      is_zone = zone;
      is = cc (front text long, year.first, year.second, year.third, year.fourth, m1, month.1, month.2, m2, day.1, day.2, hour.1, hour.2, m4, minute.1, minute.2, m5, second.1, second.2, tail.2);
    }

-- and a stamp that is read is written so
pub stamp_tells : (text : List ℕ) (s : Stamp) → stamp_of text ≡ Some s → WritesDate text s
unfolding stamp_of
stamp_tells text s e =
    option_and_then_some _ (four_at text 0) s e (λ year y e1.
    option_and_then_some _ (either_byte_at text 4 45 45) s e1 (λ u1 m1 e2.
    option_and_then_some _ (two_at text 5) s e2 (λ month mo e3.
    option_and_then_some _ (either_byte_at text 7 45 45) s e3 (λ u2 m2 e4.
    option_and_then_some _ (two_at text 8) s e4 (λ day d e5.
    option_and_then_some _ (either_byte_at text 10 84 116) s e5 (λ u3 m3 e6.
    option_and_then_some _ (two_at text 11) s e6 (λ hour h e7.
    option_and_then_some _ (either_byte_at text 13 58 58) s e7 (λ u4 m4 e8.
    option_and_then_some _ (two_at text 14) s e8 (λ minute mi e9.
    option_and_then_some _ (either_byte_at text 16 58 58) s e9 (λ u5 m5 e10.
    option_and_then_some _ (two_at text 17) s e10 (λ second se e11.
    option_and_then_some _ (zone_of (after_fraction (drop 19 text))) s e11 (λ zone z e12.
    let made : Stamp = record { year = year; month = month; day = day; hour = hour; minute = minute; second = second; zone = zone } in
    let P : Stamp → Type 0 = λ t. WritesDate text t in
    subst P (same_Some made s e12) (writes_from_places text made (four_tells text 0 year y) (same_mark text 4 45 u1 m1) (two_tells _ _ month mo) (same_mark text 7 45 u2 m2) (two_tells _ _ day d) (mark_tells text 10 84 116 u3 m3) (two_tells _ _ hour h) (same_mark text 13 58 u4 m4) (two_tells _ _ minute mi) (same_mark text 16 58 u5 m5) (two_tells _ _ second se) (zone_tells _ zone z))))))))))))))
