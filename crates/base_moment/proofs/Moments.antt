-- The moment of a text against what the text writes: found, only and refused, and a date's text read back.
use Rattle.std.proofs.Common.{◌≡◌, ℕ, ◌<◌, ◌≤◌, ◌⊎◌, inl, inr, List, [], ◌∷◌, ◌++◌, Option, Some, None, Result, Ok, Err, IfOk, ℤ, pos, negsuc, ◌*ℤ◌, ◌+ℤ◌, ◌-ℤ◌, nat_le, refl, sym, ap, ◌∙◌, arith, subst}
use Rattle.std.proofs.lemmas.Bool.{cases_Bool, cond-true, cond-false, le-leb}
use Rattle.jiff_core.specs.{declared.civil.date.Date.Date, Calendar.days_from_civil}
use Rattle.jiff_core.proofs.{SignedLemmas.signed_arith, DateLemmas.epoch_day_injective}
use Rattle.base_moment.specs.{declared.stamp.Stamp.Stamp, declared.stamp.Zone.Zone, declared.stamp.Zone.TheVariants.Utc, declared.fault.TimeFault.TimeFault}
use Rattle.base_moment.specs.{declared.fault.TimeFault.TheVariants.BadTime, declared.fault.TimeFault.TheVariants.OutOfRange, declared.fault.TimeFault.TheVariants.OutOfMemory, declared.moment.TheConstants.LAST}
use Rattle.base_moment.specs.{Rfc3339.IsDateTime, Rfc3339.WritesDate, Rfc3339.IsDateText, Rfc3339.IsZoneText, Rfc3339.face, Rfc3339.clock_of, Rfc3339.seconds_of}
use Rattle.base_moment.specs.{MomentOf.in_range, MomentOf.is_date_time, MomentOf.moment_at, MomentOf.moment_of, MomentOf.stamp_of}
use Rattle.base_moment.proofs.{Calendar.date_time_tells, Calendar.date_time_holds, Stamps.stamp_reads, Stamps.stamp_tells}

-- a text that writes a date and time has its moment
pub moment_reads : (text : List ℕ) (s : Stamp) → IsDateTime s → WritesDate text s → moment_of text ≡ in_range (seconds_of s)
unfolding moment_of
moment_reads text s h w =
    ap moment_at (stamp_reads text s w h) ∙ cond-true (is_date_time s) (in_range (seconds_of s)) (Err BadTime) (date_time_holds s h)

in_range_is : (z : ℤ) → ((n : ℕ) × (z ≡ pos n) × (in_range z ≡ Ok n)) ⊎ (in_range z ≡ Err OutOfRange)
in_range_is (pos n) =
    elim (cases_Bool (nat_le n LAST)) [
      | inl t ↦ inl (n, refl, cond-true (nat_le n LAST) (Ok n) (Err OutOfRange) t)
      | inr f ↦ inr (cond-false (nat_le n LAST) (Ok n) (Err OutOfRange) f)
    ]
in_range_is (negsuc n) = inr refl

by_stamp : (text : List ℕ) (o : Option Stamp) → stamp_of text ≡ o → ((s : Stamp) × IsDateTime s × WritesDate text s × (moment_of text ≡ in_range (seconds_of s))) ⊎ ((moment_of text ≡ Err BadTime) × ((s : Stamp) → IsDateTime s → WritesDate text s → ⊥))
unfolding moment_of
by_stamp text None e =
    inr (ap moment_at e, λ s h w. absurd (cc (e, stamp_reads text s w h)))
by_stamp text (Some s) e =
    elim (cases_Bool (is_date_time s)) [
      | inl t ↦ inl (s, date_time_tells s t, stamp_tells text s e, ap moment_at e ∙ cond-true (is_date_time s) (in_range (seconds_of s)) (Err BadTime) t)
      | inr f ↦ inr (ap moment_at e ∙ cond-false (is_date_time s) (in_range (seconds_of s)) (Err BadTime) f, λ r h w. absurd (cc (f, e, stamp_reads text r w h, date_time_holds r h)))
    ]

-- a moment that is found is that of a date and time that the text writes, and BadTime says that there is none
pub moment_tells : (text : List ℕ) → ((s : Stamp) × IsDateTime s × WritesDate text s × (moment_of text ≡ in_range (seconds_of s))) ⊎ ((moment_of text ≡ Err BadTime) × ((s : Stamp) → IsDateTime s → WritesDate text s → ⊥))
moment_tells text = by_stamp text (stamp_of text) refl

pub moment_found : (text : List ℕ) (m : ℕ) → moment_of text ≡ Ok m → (s : Stamp) × IsDateTime s × WritesDate text s × (seconds_of s ≡ pos m)
moment_found text m e =
    elim (moment_tells text) [
      | inl p ↦ elim (in_range_is (seconds_of p.0)) [
        | inl q ↦ let same : q.0 ≡ m = cc (e, p.3, q.2) in (p.0, p.1, p.2, q.1 ∙ ap pos same)
        | inr q ↦ absurd (cc (e, p.3, q))
      ]
      | inr p ↦ absurd (cc (e, p.0))
    ]

pub moment_bad : (text : List ℕ) → moment_of text ≡ Err BadTime → (s : Stamp) → IsDateTime s → WritesDate text s → ⊥
moment_bad text e =
    elim (moment_tells text) [
      | inl p ↦ elim (in_range_is (seconds_of p.0)) [
        | inl q ↦ absurd (cc (e, p.3, q.2))
        | inr q ↦ absurd (cc (e, p.3, q))
      ]
      | inr p ↦ p.1
    ]

pub moment_none : (text : List ℕ) → ((s : Stamp) → IsDateTime s → WritesDate text s → ⊥) → moment_of text ≡ Err BadTime
moment_none text none = elim (moment_tells text) [ inl p ↦ absurd (none p.0 p.1 p.2) | inr p ↦ p.0 ]

pub moment_takes_none : (text : List ℕ) → moment_of text ≡ Err OutOfMemory → ⊥
moment_takes_none text e =
    elim (moment_tells text) [
      | inl p ↦ elim (in_range_is (seconds_of p.0)) [ inl q ↦ absurd (cc (e, p.3, q.2)) | inr q ↦ absurd (cc (e, p.3, q)) ]
      | inr p ↦ absurd (cc (e, p.0))
    ]

pub moment_if_found : (text : List ℕ) (r : Result ℕ TimeFault) → r ≡ moment_of text → IfOk r (λ m. (s : Stamp) × IsDateTime s × WritesDate text s × (seconds_of s ≡ pos m))
moment_if_found text (Ok m) e = moment_found text m (sym e)
moment_if_found text (Err fault) e = tt

-- the text of a moment is read as the moment
pub date_text_reads : (text : List ℕ) (m : ℕ) → m ≤ LAST → IsDateText text m → moment_of text ≡ Ok m
date_text_reads text m last (s, h, utc, seconds, is) =
    let P : Zone → Type 0 = λ z. IsZoneText z (90 ∷ []) in
    let zone : IsZoneText s.zone (90 ∷ []) = subst P (sym utc) (inl refl) in
    let w : WritesDate text s = record { between = 84; fraction = []; zone = 90 ∷ []; is_t = inl refl; is_fraction = inl refl; is_zone = zone; is = is } in
    moment_reads text s h w ∙ ap in_range seconds ∙ cond-true (nat_le m LAST) (Ok m) (Err OutOfRange) (le-leb m LAST last)

-- a moment has one stamp of UTC
days_and_clock : (s t : Stamp) (m : ℕ) → IsDateTime s → IsDateTime t → s.zone ≡ Utc → t.zone ≡ Utc → seconds_of s ≡ pos m → seconds_of t ≡ pos m → (days_from_civil (pos s.year) s.month s.day ≡ days_from_civil (pos t.year) t.month t.day) × (clock_of s ≡ clock_of t)
days_and_clock s t m h k u v e f =
    let a : (days_from_civil (pos s.year) s.month s.day *ℤ pos 86400 +ℤ pos (clock_of s)) -ℤ pos 0 ≡ pos m = rw u at e in
    let b : (days_from_civil (pos t.year) t.month t.day *ℤ pos 86400 +ℤ pos (clock_of t)) -ℤ pos 0 ≡ pos m = rw v at f in
    let low : clock_of s < 86400 = omega (arith, h.hour, h.minute, h.second) in
    let other : clock_of t < 86400 = omega (arith, k.hour, k.minute, k.second) in
    (omega (arith, signed_arith, a, b, low, other), omega (arith, signed_arith, a, b, low, other))

date_of : (s : Stamp) → IsDateTime s → Date
date_of s h = record { year = pos s.year; month = s.month; day = s.day; year_in = h.date.0; month_in = h.date.1; day_in = h.date.2 }

stamp_with : ℕ → ℕ → ℕ → ℕ → ℕ → ℕ → Zone → Stamp
stamp_with year month day hour minute second zone = record { year = year; month = month; day = day; hour = hour; minute = minute; second = second; zone = zone }

joined : (a b c d e f : ℕ) (z : Zone) (a2 b2 c2 d2 e2 f2 : ℕ) (z2 : Zone) → a ≡ a2 → b ≡ b2 → c ≡ c2 → d ≡ d2 → e ≡ e2 → f ≡ f2 → z ≡ z2 → stamp_with a b c d e f z ≡ stamp_with a2 b2 c2 d2 e2 f2 z2
joined a b c d e f z a2 b2 c2 d2 e2 f2 z2 pa pb pc pd pe pf pz = cc

same_parts : (s t : Stamp) → s.year ≡ t.year → s.month ≡ t.month → s.day ≡ t.day → s.hour ≡ t.hour → s.minute ≡ t.minute → s.second ≡ t.second → s.zone ≡ t.zone → s ≡ t
unfolding stamp_with
same_parts s t pa pb pc pd pe pf pz =
    joined s.year s.month s.day s.hour s.minute s.second s.zone t.year t.month t.day t.hour t.minute t.second t.zone pa pb pc pd pe pf pz

one_stamp : (s t : Stamp) (m : ℕ) → IsDateTime s → IsDateTime t → s.zone ≡ Utc → t.zone ≡ Utc → seconds_of s ≡ pos m → seconds_of t ≡ pos m → s ≡ t
unfolding date_of
one_stamp s t m h k u v e f =
    let same = days_and_clock s t m h k u v e f in
    let date = epoch_day_injective (date_of s h) (date_of t k) same.0 in
    let year : s.year ≡ t.year = cc (date.0) in
    let month : s.month ≡ t.month = date.1 in
    let day : s.day ≡ t.day = date.2 in
    let hour : s.hour ≡ t.hour = omega (arith, same.1, h.minute, h.second, k.minute, k.second) in
    let minute : s.minute ≡ t.minute = omega (arith, same.1, hour, h.second, k.second) in
    let second : s.second ≡ t.second = omega (arith, same.1, hour, minute) in
    same_parts s t year month day hour minute second (u ∙ sym v)

pub one_date_text : (text other : List ℕ) (m : ℕ) → IsDateText text m → IsDateText other m → text ≡ other
one_date_text text other m (s, h, u, e, is) (t, k, v, f, js) =
    is ∙ ap (λ (r : Stamp). face r 84 ++ 90 ∷ []) (one_stamp s t m h k u v e f) ∙ sym js
