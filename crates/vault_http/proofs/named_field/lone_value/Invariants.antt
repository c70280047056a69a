-- What was found is right of the fields that the walk has passed.
use Rattle.std.proofs.Common.{take, map}
use Rattle.httparse.specs.Spans.{header_bytes}
use Rattle.vault_http.specs.{Fields.values_of, NamedField.IsLone}
use Rattle.vault_http.proofs.named_field.lone_value.Given as goal

abbrev pub invariant-loop-header : goal.invariant-loop-header
invariant-loop-header l = IsLone l.buf (values_of l.name (map (header_bytes l.buf) (take l.header-index l.headers))) l.found
