-- One more field, in what was found of those with a name: for `lone_value`.
use Rattle.std.proofs.Common.{◌≡◌, ℕ, ◌+◌, ◌<◌, List, [], ◌∷◌, ◌++◌, length, take, get_or, map, filter, refl, ap, ◌∙◌, append-nil, Bool, true, false, if◌then◌else◌, cond}
use Rattle.std.proofs.lemmas.{List.take_more, List.map-append, List.Elements.filter-append}
use Rattle.httparse.specs.{declared.spans.Span.Span, Spans.span_bytes, Spans.IsWithin}
use Rattle.vault_http.specs.{declared.named_field.Lone.Lone, declared.named_field.Lone.TheVariants.Absent, declared.named_field.Lone.TheVariants.One, declared.named_field.Lone.TheVariants.Several, Fields.is_field_named, Fields.values_of}
use Rattle.vault_http.specs.{NamedField.IsLone, NamedField.and_lone}

-- the values with one field more
abbrev pub and_value : Bool → List (List ℕ) → List ℕ → List (List ℕ)
and_value named values value = if named then values ++ value ∷ [] else values

pub IsLone-and : (buf : List ℕ) (values : List (List ℕ)) (found : Lone) (named : Bool) (s : Span) → IsWithin (length buf) s → IsLone buf values found
    → IsLone buf (and_value named values (span_bytes buf s)) (and_lone found named s)
IsLone-and buf values found false s within is = is
IsLone-and buf values Absent true s within is = (within, ap (λ vs. vs ++ span_bytes buf s ∷ []) is)
IsLone-and buf values (One first) true s within is = (is.0, span_bytes buf s, [], ap (λ vs. vs ++ span_bytes buf s ∷ []) is.1)
IsLone-and buf values (Several first) true s within is = (is.0, is.1, is.2 ++ span_bytes buf s ∷ [], ap (λ vs. vs ++ span_bytes buf s ∷ []) is.3)

last_value : (named : Bool) (values : List (List ℕ)) (f : List ℕ × List ℕ) → values ++ map (λ g. g.1) (cond named (f ∷ []) []) ≡ and_value named values f.1
last_value true values f = refl
last_value false values f = append-nil values

pub values_of-push : (name : List ℕ) (fields : List (List ℕ × List ℕ)) (f : List ℕ × List ℕ)
    → values_of name (fields ++ f ∷ []) ≡ and_value (is_field_named name f.0) (values_of name fields) f.1
values_of-push name fields f =
    ap (map (λ g. g.1)) (filter-append (λ g. is_field_named name g.0) fields (f ∷ []))
    ∙ map-append (λ g. g.1) (filter (λ g. is_field_named name g.0) fields) (filter (λ g. is_field_named name g.0) (f ∷ []))
    ∙ last_value (is_field_named name f.0) (values_of name fields) f

pub values_of_more : {X : Type 0} (name : List ℕ) (read : X → List ℕ × List ℕ) (xs : List X) (i : ℕ) (d : X) → i < length xs
    → values_of name (map read (take (i + 1) xs)) ≡ and_value (is_field_named name (read (get_or xs i d)).0) (values_of name (map read (take i xs))) (read (get_or xs i d)).1
values_of_more name read xs i d h =
    ap (λ ys. values_of name (map read ys)) (take_more xs i d h) ∙ ap (values_of name) (map-append read (take i xs) (get_or xs i d ∷ []))
    ∙ values_of-push name (map read (take i xs)) (read (get_or xs i d))
