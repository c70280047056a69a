-- The tests of the calendar and the clock against the facts that they decide, and years of days from 1970 on.
use Rattle.std.proofs.Common.{◌≡◌, ℕ, ◌≤◌, true, pos, ◌≤ℤ◌, inl, arith, rules, refl, nat_le, nat_lt, ◌&&◌}
use Rattle.std.proofs.lemmas.{Bool.and_parts, Bool.and_from, Bool.leb-true, Bool.ltb-true, Bool.le-leb, Bool.lt-ltb, Int.by_lt_z}
use Rattle.jiff_core.specs.{declared.civil.date.Date.Date, Calendar.days_in_month, Calendar.IsCivilDate, Date.epoch_day}
use Rattle.jiff_core.proofs.{SignedLemmas.signed_arith, CalendarLemmas.days_from_civil-day_count, CalendarLemmas.day_count-epoch, DateLemmas.epoch_day-lt}
use Rattle.base_moment.specs.{declared.stamp.Stamp.Stamp, declared.stamp.Zone.Zone, declared.stamp.Zone.TheVariants.Utc, declared.stamp.Zone.TheVariants.Ahead, declared.stamp.Zone.TheVariants.Behind, Rfc3339.IsDateTime, Rfc3339.IsOffset}
use Rattle.base_moment.specs.{MomentOf.is_date, MomentOf.is_time, MomentOf.is_date_time, MomentOf.is_offset}

first_of_1970 : Date
first_of_1970 = record { year = pos 1970; month = 1; day = 1; year_in = search rules; month_in = search rules; day_in = search rules }

-- a day from 1970-01-01 on is of a year from 0 on
pub year_from_epoch : (d : Date) (n : ℕ) → epoch_day d ≡ pos n → pos 0 ≤ℤ d.year
unfolding first_of_1970
year_from_epoch d n e =
    by_lt_z d.year (pos 0)
    (λ before. absurd (omega (arith, signed_arith, e, epoch_day-lt d first_of_1970 (inl (omega (arith, signed_arith))), days_from_civil-day_count (pos 1970) 1 1, day_count-epoch)))
    (λ after. after)

date_tells : (year month day : ℕ) → is_date year month day ≡ true → IsCivilDate (pos year) month day
date_tells y m d t =
    let a = and_parts (nat_le y 9999 && nat_le 1 m && nat_le m 12 && nat_le 1 d) (nat_le d (days_in_month (pos y) m)) t in
    let b = and_parts (nat_le y 9999 && nat_le 1 m && nat_le m 12) (nat_le 1 d) a.0 in
    let c = and_parts (nat_le y 9999 && nat_le 1 m) (nat_le m 12) b.0 in
    let e = and_parts (nat_le y 9999) (nat_le 1 m) c.0 in
    let year : y ≤ 9999 = leb-true y 9999 e.0 in
    ((omega (arith, signed_arith), omega (arith, signed_arith)), (leb-true 1 m e.1, leb-true m 12 c.1), (leb-true 1 d b.1, leb-true d (days_in_month (pos y) m) a.1))

date_holds : (year month day : ℕ) → IsCivilDate (pos year) month day → is_date year month day ≡ true
date_holds y m d h =
    let year : y ≤ 9999 = omega (arith, signed_arith, h.0.1) in
    and_from (nat_le y 9999 && nat_le 1 m && nat_le m 12 && nat_le 1 d) (nat_le d (days_in_month (pos y) m))
    (and_from (nat_le y 9999 && nat_le 1 m && nat_le m 12) (nat_le 1 d)
    (and_from (nat_le y 9999 && nat_le 1 m) (nat_le m 12)
    (and_from (nat_le y 9999) (nat_le 1 m) (le-leb y 9999 year) (le-leb 1 m h.1.0)) (le-leb m 12 h.1.1)) (le-leb 1 d h.2.0))
    (le-leb d (days_in_month (pos y) m) h.2.1)

offset_tells : (z : Zone) → is_offset z ≡ true → IsOffset z
offset_tells Utc t = tt
offset_tells (Ahead h m) t = let p = and_parts (nat_lt h 24) (nat_lt m 60) t in (ltb-true h 24 p.0, ltb-true m 60 p.1)
offset_tells (Behind h m) t = let p = and_parts (nat_lt h 24) (nat_lt m 60) t in (ltb-true h 24 p.0, ltb-true m 60 p.1)

offset_holds : (z : Zone) → IsOffset z → is_offset z ≡ true
offset_holds Utc h = refl
offset_holds (Ahead h m) k = and_from (nat_lt h 24) (nat_lt m 60) (lt-ltb h 24 k.0) (lt-ltb m 60 k.1)
offset_holds (Behind h m) k = and_from (nat_lt h 24) (nat_lt m 60) (lt-ltb h 24 k.0) (lt-ltb m 60 k.1)

pub date_time_tells : (s : Stamp) → is_date_time s ≡ true → IsDateTime s
unfolding is_date_time
date_time_tells s t =
    let a = and_parts (is_date s.year s.month s.day) (is_time s) t in
    let b = and_parts (nat_lt s.hour 24 && nat_lt s.minute 60 && nat_lt s.second 60) (is_offset s.zone) a.1 in
    let c = and_parts (nat_lt s.hour 24 && nat_lt s.minute 60) (nat_lt s.second 60) b.0 in
    let e = and_parts (nat_lt s.hour 24) (nat_lt s.minute 60) c.0 in
    record {
      date = date_tells s.year s.month s.day a.0;
      hour = ltb-true s.hour 24 e.0;
      minute = ltb-true s.minute 60 e.1;
      second = ltb-true s.second 60 c.1;
      offset = offset_tells s.zone b.1;
    }

pub date_time_holds : (s : Stamp) → IsDateTime s → is_date_time s ≡ true
unfolding is_date_time
date_time_holds s h =
    and_from (is_date s.year s.month s.day) (is_time s) (date_holds s.year s.month s.day h.date)
    (and_from (nat_lt s.hour 24 && nat_lt s.minute 60 && nat_lt s.second 60) (is_offset s.zone)
    (and_from (nat_lt s.hour 24 && nat_lt s.minute 60) (nat_lt s.second 60)
    (and_from (nat_lt s.hour 24) (nat_lt s.minute 60) (lt-ltb s.hour 24 h.hour) (lt-ltb s.minute 60 h.minute)) (lt-ltb s.second 60 h.second))
    (offset_holds s.zone h.offset))
