-- The request whose head's parts stand in these bytes.
use Rattle.std.specs.Prelude.{ℕ, List, length, Option, None, Some, option_map, Result}
use Rattle.http.specs.Token.{IsToken}
use Rattle.httparse.specs.{declared.spans.Span.Span, Spans.span_bytes, Spans.IsWithin}
use Rattle.vault_http.specs.{declared.body.BodyFault.BodyFault, declared.found_head.Start.Start, declared.http_fault.HttpFault.HttpFault, declared.request.Request.Request, Messages.request_from_parts}

-- the span, if there is one, lies in the bytes
abbrev pub IsTokenWithin : List ℕ → Option Span → Type 0
IsTokenWithin front None = Unit {0}
IsTokenWithin front (Some s) = IsWithin (length front) s

-- the parts lie in the bytes, and the method is a token
pub record IsStart (front : List ℕ) (start : Start) : Type 0 where
  pub method : IsWithin (length front) start.method
  pub path : IsWithin (length front) start.path
  pub token : IsTokenWithin front start.token
  pub is_token : IsToken (span_bytes front start.method)

-- the request of these parts and a body
abbrev pub request_at : List ℕ → Start → Result (List ℕ) BodyFault → Result Request HttpFault
request_at front start body = request_from_parts (span_bytes front start.method) (span_bytes front start.path) (option_map (span_bytes front) start.token) body
