-- What a walk over the fields found of those with one name.
use Rattle.std.specs.Prelude.{Bool, true, false, ◌≡◌, ℕ, List, [], ◌∷◌, length}
use Rattle.httparse.specs.{declared.spans.Span.Span, Spans.span_bytes, Spans.IsWithin}
use Rattle.vault_http.specs.{declared.named_field.Lone.Lone, declared.named_field.Lone.TheVariants.Absent, declared.named_field.Lone.TheVariants.One, declared.named_field.Lone.TheVariants.Several}

-- none, the one, or the first of several of these values
abbrev pub IsLone : List ℕ → List (List ℕ) → Lone → Type 0
IsLone buf values Absent = values ≡ []
IsLone buf values (One s) = IsWithin (length buf) s × (values ≡ span_bytes buf s ∷ [])
IsLone buf values (Several s) = IsWithin (length buf) s × (value : List ℕ) × (more : List (List ℕ)) × (values ≡ span_bytes buf s ∷ value ∷ more)

-- what was found, with one more field, which may have the name
abbrev pub and_lone : Lone → Bool → Span → Lone
and_lone found false s = found
and_lone Absent true s = One s
and_lone (One first) true s = Several first
and_lone (Several first) true s = Several first
