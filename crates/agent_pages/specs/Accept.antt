-- Accept: whether a request takes OpenMetrics' text.
-- Source: RFC 9110, sections 5.6.3, 8.3.1, 12.4.2 and 12.5.1; OpenMetrics 1.0, "Protocol Negotiation". Weights are not compared: it is taken
-- where some range of a field `Accept` names it, and not with a weight of 0.
use Rattle.std.specs.Prelude.{ℕ, Bool, false, ◌&&◌, ◌||◌, ◌==◌, not, List, [], ◌∷◌, codes, drop, length, take, take_while}
use Rattle.std.specs.{List.list_all, List.list_any, Str.str_eq_ignore_ascii_case}
use Rattle.base_words.specs.Pieces.{pieces}

-- white space: a space or a tab
abbrev pub is_space_or_tab : ℕ → Bool
is_space_or_tab b = b == 32 || b == 9

-- what stands after the white space in front
unfoldable pub led : List ℕ → List ℕ
led text = drop (length (take_while is_space_or_tab text)) text

-- the type, letters of either case, and nothing but white space around it
unfoldable pub is_open_type : List ℕ → Bool
is_open_type text = str_eq_ignore_ascii_case (take 28 (led text)) (codes "application/openmetrics-text") && list_all is_space_or_tab (drop 28 (led text))

-- a zero, a point or white space
abbrev pub is_zero_byte : ℕ → Bool
is_zero_byte b = b == 48 || (b == 46 || is_space_or_tab b)

-- `q=0`, and no other digit after it
unfoldable pub is_zero_weight : List ℕ → Bool
is_zero_weight text = str_eq_ignore_ascii_case (take 3 (led text)) (codes "q=0") && list_all is_zero_byte (drop 3 (led text))

-- a range: a type, and parameters after semicolons
abbrev pub takes_parts : List (List ℕ) → Bool
takes_parts [] = false
takes_parts (kind ∷ parameters) = is_open_type kind && not (list_any is_zero_weight parameters)

unfoldable pub takes_range : List ℕ → Bool
takes_range range = takes_parts (pieces 59 range)

-- the value of a field: ranges between commas
unfoldable pub takes_value : List ℕ → Bool
takes_value value = list_any takes_range (pieces 44 value)

unfoldable pub takes_field : List ℕ → List ℕ → Bool
takes_field name value = str_eq_ignore_ascii_case name (codes "accept") && takes_value value

-- the fields of a head: names and values
abbrev pub takes_fields : List (List ℕ × List ℕ) → Bool
takes_fields [] = false
takes_fields (field ∷ fields) = takes_field field.0 field.1 || takes_fields fields
