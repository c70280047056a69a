-- The seconds of a stamp from its parts, for `Stamp::seconds`.
use Rattle.std.proofs.Common.{◌≡◌, ℕ, ◌*ℤ◌, ◌+ℤ◌, ◌-ℤ◌, ℤ, pos, Some, None, true, if◌then◌else◌, sym, ap, ◌∙◌}
use Rattle.std.proofs.lemmas.{Option.cond_some, Bool.and_from, Bool.cond-true}
use Rattle.jiff_core.specs.Calendar.{days_from_civil}
use Rattle.base_moment.specs.{declared.stamp.Stamp.Stamp, Rfc3339.seconds_of, Rfc3339.clock_of, Rfc3339.offset_of, MomentOf.is_date, MomentOf.is_date_time, MomentOf.is_time}

pub seconds_from_parts : (s : Stamp) (day offset sum : ℤ) (clock : ℕ) → Some day ≡ (if is_date s.year s.month s.day then Some (days_from_civil (pos s.year) s.month s.day) else None) → is_time s ≡ true → clock ≡ clock_of s → offset ≡ offset_of s.zone → sum ≡ (day *ℤ pos 86400 +ℤ pos clock) -ℤ offset → Some sum ≡ (if is_date_time s then Some (seconds_of s) else None)
unfolding is_date_time
seconds_from_parts s day offset sum clock d t c o e =
    let date = cond_some (is_date s.year s.month s.day) (days_from_civil (pos s.year) s.month s.day) day (sym d) in
    let both = and_from (is_date s.year s.month s.day) (is_time s) date.0 t in
    ap Some (rw (date.1, ← c, ← o) e) ∙ sym (cond-true (is_date_time s) (Some (seconds_of s)) None both)
