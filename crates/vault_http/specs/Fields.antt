-- The fields of a head by their names, in which the case of letters does not count (RFC 9110, section 5.1).
use Rattle.std.specs.Prelude.{ℕ, List, map, filter, Bool}
use Rattle.std.specs.Str.{str_eq_ignore_ascii_case}

-- whether that is the name, letters of either case
abbrev pub is_field_named : List ℕ → List ℕ → Bool
is_field_named name field = str_eq_ignore_ascii_case field name

-- the values of the fields with that name, in their order
abbrev pub values_of : List ℕ → List (List ℕ × List ℕ) → List (List ℕ)
values_of name fields = map (λ f. f.1) (filter (λ f. is_field_named name f.0) fields)
