-- The moment of a text, as a function: the reading that `Writes` has, found byte by byte.
-- Each place of the pattern is looked at by its number; a place past the end is 0, and so no digit and no mark.
use Rattle.std.specs.Prelude.{ℕ, ◌+◌, ◌-◌, ◌*◌, Bool, true, ◌&&◌, ◌||◌, List, [], ◌∷◌, length, drop, slice_index, ℤ, pos, negsuc, Option, Some, None, option_and_then, Result, Ok, Err, ◌==◌, nat_le, nat_lt, if◌then◌else◌}
use Rattle.std.specs.Char.{is_ascii_digit}
use Rattle.jiff_core.specs.Calendar.{days_in_month}
use Rattle.base_moment.specs.{declared.stamp.Stamp.Stamp, declared.stamp.Zone.Zone, declared.stamp.Zone.TheVariants.Utc, declared.stamp.Zone.TheVariants.Ahead, declared.stamp.Zone.TheVariants.Behind, declared.fault.TimeFault.TimeFault}
use Rattle.base_moment.specs.{declared.fault.TimeFault.TheVariants.BadTime, declared.fault.TimeFault.TheVariants.OutOfRange, declared.moment.TheConstants.LAST, Rfc3339.seconds_of}

infixl 10 ◌>>=◌
abbrev pub ◌>>=◌ : {A B : Type 0} → Option A → (A → Option B) → Option B
o >>= f = option_and_then f o

-- the number of two digits
unfoldable pub two_of : ℕ → ℕ → Option ℕ
two_of tens ones =
    if is_ascii_digit tens && is_ascii_digit ones then Some (10 * (tens - 48) + (ones - 48)) else None

-- the number of the two digits from this place on
abbrev pub two_at : List ℕ → ℕ → Option ℕ
two_at text place = two_of (slice_index text place) (slice_index text (place + 1))

-- the number of the four digits from this place on
abbrev pub four_at : List ℕ → ℕ → Option ℕ
four_at text place = do
  high ← two_at text place
  low ← two_at text (place + 2)
  Some (100 * high + low)

-- nothing, where one of these two bytes stands at this place
abbrev pub either_byte_at : List ℕ → ℕ → ℕ → ℕ → Option (Unit {0})
either_byte_at text place one other =
    if (slice_index text place == one) || (slice_index text place == other) then Some tt else None

-- what follows the digits at the front
abbrev pub after_digits : List ℕ → List ℕ
after_digits [] = []
after_digits (b ∷ bs) = if is_ascii_digit b then after_digits bs else b ∷ bs

-- what follows the fraction at the front, if there is one
abbrev pub after_fraction : List ℕ → List ℕ
after_fraction text =
    if (slice_index text 0 == 46) && is_ascii_digit (slice_index text 1) then after_digits (drop 2 text) else text

-- a zone ahead of UTC for `+`, behind it for `-`
abbrev pub signed : ℕ → ℕ → ℕ → Option Zone
signed sign hours minutes =
    if sign == 43 then Some (Ahead hours minutes) else (if sign == 45 then Some (Behind hours minutes) else None)

-- the zone that `+HH:MM` or `-HH:MM` writes
abbrev pub numeric_zone : List ℕ → Option Zone
numeric_zone text = do
  hours ← two_at text 1
  colon ← either_byte_at text 3 58 58
  minutes ← two_at text 4
  signed (slice_index text 0) hours minutes

-- the zone that these bytes write, up to their end
unfoldable pub zone_of : List ℕ → Option Zone
zone_of text =
    if length text == 1 then (either_byte_at text 0 90 122 >>= λ z. Some Utc)
    else (if length text == 6 then numeric_zone text else None)

-- the numbers that a text writes
unfoldable pub stamp_of : List ℕ → Option Stamp
stamp_of text = do
  year ← four_at text 0
  dash ← either_byte_at text 4 45 45
  month ← two_at text 5
  dash_2 ← either_byte_at text 7 45 45
  day ← two_at text 8
  between ← either_byte_at text 10 84 116
  hour ← two_at text 11
  colon ← either_byte_at text 13 58 58
  minute ← two_at text 14
  colon_2 ← either_byte_at text 16 58 58
  second ← two_at text 17
  zone ← zone_of (after_fraction (drop 19 text))
  Some (record { year = year; month = month; day = day; hour = hour; minute = minute; second = second; zone = zone })

-- the calendar has the date
abbrev pub is_date : ℕ → ℕ → ℕ → Bool
is_date year month day =
    nat_le year 9999 && nat_le 1 month && nat_le month 12 && nat_le 1 day && nat_le day (days_in_month (pos year) month)

abbrev pub is_offset : Zone → Bool
is_offset Utc = true
is_offset (Ahead hours minutes) = nat_lt hours 24 && nat_lt minutes 60
is_offset (Behind hours minutes) = nat_lt hours 24 && nat_lt minutes 60

-- a clock has the time, and the zone an offset
abbrev pub is_time : Stamp → Bool
is_time s = nat_lt s.hour 24 && nat_lt s.minute 60 && nat_lt s.second 60 && is_offset s.zone

-- the calendar has the date, and a clock the time
unfoldable pub is_date_time : Stamp → Bool
is_date_time s = is_date s.year s.month s.day && is_time s

-- the moment that many seconds after 1970-01-01T00:00:00Z
abbrev pub in_range : ℤ → Result ℕ TimeFault
in_range (pos n) = if nat_le n LAST then Ok n else Err OutOfRange
in_range (negsuc n) = Err OutOfRange

abbrev pub moment_at : Option Stamp → Result ℕ TimeFault
moment_at None = Err BadTime
moment_at (Some s) = if is_date_time s then in_range (seconds_of s) else Err BadTime

-- the moment of a text, or why it has none
unfoldable pub moment_of : List ℕ → Result ℕ TimeFault
moment_of text = moment_at (stamp_of text)
