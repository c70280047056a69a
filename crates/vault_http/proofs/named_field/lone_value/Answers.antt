-- One more field is passed.
use Rattle.std.proofs.Common.{◌≡◌, ℕ, ◌+◌, ◌<◌, Bool, List, length, get_or, take, map, All, sym, ap, ◌∙◌, subst}
use Rattle.std.proofs.lemmas.List.Elements.{All-get_or}
use Rattle.httparse.specs.{declared.spans.HeaderSpan.HeaderSpan, Spans.header_bytes, Spans.span_bytes, Spans.IsHeaderWithin}
use Rattle.vault_http.specs.{Fields.is_field_named, Fields.values_of, NamedField.IsLone, NamedField.and_lone, declared.named_field.Lone.Lone}
use Rattle.vault_http.proofs.FieldValues.{IsLone-and, values_of_more, and_value}
use Rattle.vault_http.proofs.named_field.lone_value.Goals as goal

open_step : (buf name : List ℕ) (headers : List HeaderSpan) (i : ℕ) (d : HeaderSpan) (found after : Lone) (named : Bool) → i < length headers
    → All (IsHeaderWithin (length buf)) headers
    → named ≡ is_field_named name (span_bytes buf (get_or headers i d).name)
    → after ≡ and_lone found named (get_or headers i d).value
    → IsLone buf (values_of name (map (header_bytes buf) (take i headers))) found
    → IsLone buf (values_of name (map (header_bytes buf) (take (i + 1) headers))) after
open_step buf name headers i d found after named inside within is next so_far =
    let step = values_of_more name (header_bytes buf) headers i d inside in
    let values = values_of name (map (header_bytes buf) (take i headers)) in
    let value = span_bytes buf (get_or headers i d).value in
    let same : values_of name (map (header_bytes buf) (take (i + 1) headers)) ≡ and_value named values value = step ∙ ap (λ t. and_value t values value) (sym is) in
    let base = IsLone-and buf values found named (get_or headers i d).value (All-get_or (IsHeaderWithin (length buf)) headers i d inside within).1 so_far in
    subst (λ vs. IsLone buf vs after) (sym same) (subst (IsLone buf (and_value named values value)) (sym next) base)

pub loop-header-preserved : goal.loop-header-preserved
loop-header-preserved c =
    open_step c.args.buf.now c.args.name.now c.args.headers.now c.loop-header.header-index _ c.loop-header.found c.and-found.result c.has_name-named.result
    c.loop-header-test.true c.requires (c.has_name-named.ensures ∙ ap (is_field_named c.args.name.now) c.of.ensures)
    c.and-found.ensures c.loop-header.invariant
