-- Durations: a text of numbers with units, as "90m", "1h30m" or "30d", in seconds.
-- Source: this project's own. A day has 86,400 seconds.
use Rattle.std.specs.Prelude.{◌≡◌, ◌⊎◌, ℕ, ◌+◌, ◌*◌, ◌<◌, ◌≤◌, Bool, true, ◌&&◌, ◌==◌, if◌then◌else◌, List, [], ◌∷◌, ◌++◌, Option, Some, None, length, take, drop, slice_index, nat_lt, nat_le}
use Rattle.std.specs.{Char.is_ascii_digit, List.list_all, Str.Parse.digits_value}

-- how many digits stand at the front
unfoldable pub digits_before : List ℕ → ℕ
digits_before [] = 0
digits_before (b ∷ bs) = if is_ascii_digit b then 1 + digits_before bs else 0

-- a number of 1 to 10 digits and this letter stand at the front
unfoldable pub has_part : ℕ → List ℕ → Bool
has_part letter text =
    nat_lt 0 (digits_before text) && (nat_le (digits_before text) 10 && (nat_lt (digits_before text) (length text) && (slice_index text (digits_before text) == letter)))

-- what they are worth, where each one is worth so many seconds
unfoldable pub part_seconds : ℕ → ℕ → List ℕ → ℕ
part_seconds letter size text = if has_part letter text then digits_value 10 (take (digits_before text) text) * size else 0

-- what follows them
unfoldable pub after_part : ℕ → List ℕ → List ℕ
after_part letter text = if has_part letter text then drop (digits_before text + 1) text else text

-- days, hours, minutes and seconds, each once at most and in this order
abbrev pub hours_on : List ℕ → List ℕ
hours_on text = after_part 100 text

abbrev pub minutes_on : List ℕ → List ℕ
minutes_on text = after_part 104 (hours_on text)

abbrev pub seconds_on : List ℕ → List ℕ
seconds_on text = after_part 109 (minutes_on text)

-- one of them at least, and nothing else
unfoldable pub duration_of_text : List ℕ → Option ℕ
duration_of_text text =
    if nat_lt 0 (length text) && (length (after_part 115 (seconds_on text)) == 0)
    then Some (part_seconds 100 86400 text + (part_seconds 104 3600 (hours_on text) + (part_seconds 109 60 (minutes_on text) + part_seconds 115 1 (seconds_on text))))
    else None

-- ---- what a duration is, whatever reads it

abbrev pub IsNumber : List ℕ → Type 0
IsNumber digits = (0 < length digits) × (length digits ≤ 10) × (list_all is_ascii_digit digits ≡ true)

-- a number and its letter, worth so many seconds each; or nothing
abbrev pub IsPart : ℕ → ℕ → List ℕ → ℕ → Type 0
IsPart letter size part n = ((part ≡ []) × (n ≡ 0)) ⊎ ((digits : List ℕ) × IsNumber digits × (part ≡ digits ++ letter ∷ []) × (n ≡ digits_value 10 digits * size))

-- days, hours, minutes and seconds, one of them at least
pub record IsDuration (text : List ℕ) (n : ℕ) : Type 0 where
  pub days : List ℕ
  pub in_days : ℕ
  pub are_days : IsPart 100 86400 days in_days
  pub hours : List ℕ
  pub in_hours : ℕ
  pub are_hours : IsPart 104 3600 hours in_hours
  pub minutes : List ℕ
  pub in_minutes : ℕ
  pub are_minutes : IsPart 109 60 minutes in_minutes
  pub seconds : List ℕ
  pub in_seconds : ℕ
  pub are_seconds : IsPart 115 1 seconds in_seconds
  pub parts : text ≡ days ++ (hours ++ (minutes ++ seconds))
  pub some : 0 < length text
  pub sum : n ≡ in_days + (in_hours + (in_minutes + in_seconds))

-- what is read is a duration of so many seconds, and each is read
abbrev pub DurationFound : Type 0
DurationFound = (text : List ℕ) (n : ℕ) → duration_of_text text ≡ Some n → IsDuration text n

abbrev pub DurationOnly : Type 0
DurationOnly = (text : List ℕ) (n : ℕ) → IsDuration text n → duration_of_text text ≡ Some n
