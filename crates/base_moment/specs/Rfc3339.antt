-- A date and time as RFC 3339, section 5.6, writes it (`date-time`), and the moment that it means.
--
-- Of the standard this takes all years from 0000 to 9999, `T` and `Z` in either case, any fraction of a second, and
-- offsets to 23:59 on either side; a second of 60 is left out.
use Rattle.std.specs.Prelude.{◌≡◌, ℕ, ◌+◌, ◌*◌, ◌/◌, ◌%◌, ◌<◌, ◌⊎◌, List, [], ◌∷◌, ◌++◌, ℤ, pos, neg_ℤ, ◌+ℤ◌, ◌-ℤ◌, ◌*ℤ◌, length, true}
use Rattle.std.specs.Str.{all_ascii_digits}
use Rattle.jiff_core.specs.Calendar.{IsCivilDate, days_from_civil}
use Rattle.base_moment.specs.{declared.stamp.Stamp.Stamp, declared.stamp.Zone.Zone, declared.stamp.Zone.TheVariants.Utc, declared.stamp.Zone.TheVariants.Ahead, declared.stamp.Zone.TheVariants.Behind}

-- the two digits of a number below 100: 48 is `0`
abbrev pub two_digits_of : ℕ → List ℕ
two_digits_of n = (48 + n / 10) ∷ (48 + n % 10) ∷ []

-- the four digits of a number below 10000
abbrev pub four_digits_of : ℕ → List ℕ
four_digits_of n = two_digits_of (n / 100) ++ two_digits_of (n % 100)

-- the nineteen bytes `YYYY-MM-DDTHH:MM:SS` of a stamp, with this byte between date and time: 45 is `-`, 58 is `:`
abbrev pub face : Stamp → ℕ → List ℕ
face s between =
    four_digits_of s.year ++ 45 ∷ (two_digits_of s.month ++ 45 ∷ (two_digits_of s.day ++ between ∷ (two_digits_of s.hour ++ 58 ∷ (two_digits_of s.minute ++ 58 ∷ two_digits_of s.second))))

-- a fraction of a second: nothing, or `.` and one digit or more
abbrev pub IsFraction : List ℕ → Type 0
IsFraction text = (text ≡ []) ⊎ ((digits : List ℕ) × (0 < length digits) × (all_ascii_digits digits ≡ true) × (text ≡ 46 ∷ digits))

-- the text of a zone: `Z` or `z`, or `+HH:MM`, or `-HH:MM`
abbrev pub IsZoneText : Zone → List ℕ → Type 0
IsZoneText Utc text = (text ≡ 90 ∷ []) ⊎ (text ≡ 122 ∷ [])
IsZoneText (Ahead hours minutes) text = text ≡ 43 ∷ (two_digits_of hours ++ 58 ∷ two_digits_of minutes)
IsZoneText (Behind hours minutes) text = text ≡ 45 ∷ (two_digits_of hours ++ 58 ∷ two_digits_of minutes)

-- the text writes these numbers: `T` or `t` stands between date and time
pub record WritesDate (text : List ℕ) (s : Stamp) : Type 0 where
  pub between : ℕ
  pub fraction : List ℕ
  pub zone : List ℕ
  pub is_t : (between ≡ 84) ⊎ (between ≡ 116)
  pub is_fraction : IsFraction fraction
  pub is_zone : IsZoneText s.zone zone
  pub is : text ≡ face s between ++ (fraction ++ zone)

-- an offset has hours below 24 and minutes below 60
abbrev pub IsOffset : Zone → Type 0
IsOffset Utc = Unit {0}
IsOffset (Ahead hours minutes) = (hours < 24) × (minutes < 60)
IsOffset (Behind hours minutes) = (hours < 24) × (minutes < 60)

-- the calendar has the date, and a clock the time
pub record IsDateTime (s : Stamp) : Type 0 where
  pub date : IsCivilDate (pos s.year) s.month s.day
  pub hour : s.hour < 24
  pub minute : s.minute < 60
  pub second : s.second < 60
  pub offset : IsOffset s.zone

-- the seconds by which clocks of a zone are ahead of UTC
abbrev pub offset_of : Zone → ℤ
offset_of Utc = pos 0
offset_of (Ahead hours minutes) = pos (3600 * hours + 60 * minutes)
offset_of (Behind hours minutes) = neg_ℤ (pos (3600 * hours + 60 * minutes))

-- the seconds of the day that its own clock shows
abbrev pub clock_of : Stamp → ℕ
clock_of s = 3600 * s.hour + 60 * s.minute + s.second

-- whole seconds since 1970-01-01T00:00:00Z, negative before it: a clock ahead of UTC shows more than UTC does, so its
-- offset is taken off. A fraction counts for nothing, so what has one is cut off downwards
abbrev pub seconds_of : Stamp → ℤ
seconds_of s = (days_from_civil (pos s.year) s.month s.day *ℤ pos 86400 +ℤ pos (clock_of s)) -ℤ offset_of s.zone

-- the text of a moment: that of a stamp of UTC, with `T`, `Z` and no fraction
abbrev pub IsDateText : List ℕ → ℕ → Type 0
IsDateText text moment =
    (s : Stamp) × IsDateTime s × (s.zone ≡ Utc) × (seconds_of s ≡ pos moment) × (text ≡ face s 84 ++ 90 ∷ [])
