-- When: until when an entry is to be needed, as the word of a request says it.
-- Source: RFC 3339, section 5.6, for a date; the rest is this project's own.
use Rattle.std.specs.Prelude.{ℕ, ◌+◌, ◌-◌, ◌*◌, ◌≤◌, Bool, ◌&&◌, ◌==◌, if◌then◌else◌, List, ◌∷◌, Option, Some, None, length, take, drop, slice_index, nat_lt, nat_le, decimal, option_map}
use Rattle.std.specs.{Char.is_ascii_digit, List.list_all, Str.Parse.digits_value}
use Rattle.base_moment.specs.declared.moment.TheConstants.{LAST}
use Rattle.vault_inventory.specs.{Languages.full, Values.need_text, declared.need.Need.Need, declared.need.Need.TheVariants.Until, Needs.IsNeed, Needs.need_word}
use Rattle.agent_control.specs.declared.when.When.{When}
use Rattle.agent_control.specs.declared.when.When.TheVariants.{Fixed, FromNow}

-- 1 to 12 decimal digits; zeros in front are taken
unfoldable pub is_number : List ℕ → Bool
is_number text = nat_lt 0 (length text) && (nat_le (length text) 12 && list_all is_ascii_digit text)

-- a number of seconds, where no later moment than the last is so many seconds after 1970-01-01T00:00:00Z
abbrev pub if_not_past : ℕ → Option ℕ
if_not_past n = if nat_le n LAST then Some n else None

-- the seconds of a unit: `s`, `m`, `h` and `d`; 0 of any other byte
abbrev pub unit_seconds : ℕ → ℕ
unit_seconds letter = if letter == 115 then 1 else (if letter == 109 then 60 else (if letter == 104 then 3600 else (if letter == 100 then 86400 else 0)))

abbrev pub last_byte : List ℕ → ℕ
last_byte text = slice_index text (length text - 1)

abbrev pub but_last : List ℕ → List ℕ
but_last text = take (length text - 1) text

-- a number of so many seconds each
unfoldable pub seconds_each : ℕ → List ℕ → Option ℕ
seconds_each size text = if nat_lt 0 size && is_number text then if_not_past (digits_value 10 text * size) else None

-- how many seconds a number with a unit is, or without one
unfoldable pub span_of : List ℕ → Option ℕ
span_of text = if is_number text then seconds_each 1 text else seconds_each (unit_seconds (last_byte text)) (but_last text)

abbrev pub fixed_if : Option ℕ → Option When
fixed_if None = None
fixed_if (Some t) = Some (Fixed (Until t))

-- a moment in seconds since 1970-01-01T00:00:00Z; or else what an inventory has: a date, or `always`
unfoldable pub fixed_of : List ℕ → Option When
fixed_of word = if is_number word then fixed_if (seconds_each 1 word) else option_map (λ need. Fixed need) (need_text full word)

-- what a word says: after a plus, a time from now
unfoldable pub when_of : List ℕ → Option When
when_of word = if slice_index word 0 == 43 then option_map (λ n. FromNow n) (span_of (drop 1 word)) else fixed_of word

-- ---- as it is written

abbrev pub when_word : When → List ℕ
when_word (Fixed need) = need_word need
when_word (FromNow n) = 43 ∷ decimal n

-- ---- which there are

abbrev pub IsWhen : When → Type 0
IsWhen (Fixed need) = IsNeed need
IsWhen (FromNow n) = n ≤ LAST

-- ---- the need that it is, once the time is known

-- that of a time from now, where it is not past the last moment
abbrev pub need_at : ℕ → When → Option Need
need_at now (Fixed need) = Some need
need_at now (FromNow n) = option_map (λ t. Until t) (if_not_past (now + n))
