-- Judging a request by a part of it, as `MessageLemmas` does a reply.
use Rattle.std.proofs.Common.{◌≡◌, ℕ, ◌-◌, inl, inr, List, ◌++◌, length, take, drop, refl, sym, append_assoc, subst, map, Option, None, Some, option_map, Result, Err}
use Rattle.http.specs.Token as header
use Rattle.httparse.specs.{declared.spans.Span.Span, Grammar.print_request, Grammar.ReadsRequest, Spans.RequestOverflows, Spans.span_bytes, Spans.name_and_value}
use Rattle.httparse.specs.Grammar as grammar
use Rattle.vault_http.specs.{declared.framing.Framing.Framing, declared.framing.LengthFault.LengthFault, declared.found_head.Start.Start, declared.http_fault.HttpFault.HttpFault, declared.http_fault.HttpFault.TheVariants.BadHead}
use Rattle.vault_http.specs.{declared.request.Request.Request, Heads.FoundRequest, Heads.framing_of_request, Heads.token_of, Heads.IsAt, Messages.IsFramed, Messages.request_from_parts, Messages.IsHttpRequest}
use Rattle.vault_http.specs.{Starts.IsStart, Starts.IsTokenWithin, Starts.request_at, declared.found_head.TheConstants.MOST_FIELDS}
use Rattle.vault_http.proofs.{Fronts.take-grows, MessageLemmas.head_on}

overflows_on : (front more : List ℕ) → RequestOverflows MOST_FIELDS front → RequestOverflows MOST_FIELDS (front ++ more)
overflows_on front more over after h rest reads = over (more ++ after) h rest (subst (λ b. ReadsRequest b h rest) (append_assoc front more after) reads)

pub refused_request : (max : ℕ) (bytes more : List ℕ) → RequestOverflows MOST_FIELDS (take max bytes) → IsHttpRequest max (bytes ++ more) (Err BadHead)
refused_request max bytes more over =
    inl (BadHead, subst (RequestOverflows MOST_FIELDS) (sym (take-grows max bytes more)) (overflows_on (take max bytes) (take (max - length bytes) more) over), refl)

-- the token that the span covers
token_at : (front : List ℕ) (token : Option Span) (value : Option (List ℕ)) → IsAt front token value → option_map (span_bytes front) token ≡ value
token_at front None value is = sym is
token_at front (Some s) value is = sym is.1

token_within : (front : List ℕ) (token : Option Span) (value : Option (List ℕ)) → IsAt front token value → IsTokenWithin front token
token_within front None value is = tt
token_within front (Some s) value is = is.0

-- a token to the parser is one to the type of methods
token_same : (m : List ℕ) → grammar.IsToken m → header.IsToken m
unfolding grammar.is_token_byte header.is_token_byte
token_same m is = is

pub start_of : (front : List ℕ) (len : ℕ) (start : Start) (framed : Result Framing LengthFault) → FoundRequest front len start framed → IsStart front start
start_of front len start framed f = record {
  method = f.method_is.0;
  path = f.path_is.0;
  token = token_within front start.token (token_of (map name_and_value f.head.fields)) f.token_is;
  is_token = subst header.IsToken (sym f.method_is.1) (token_same f.head.method f.reads.0.method);
}

pub headed_request : (max : ℕ) (bytes more : List ℕ) (len : ℕ) (start : Start) (framed : Result Framing LengthFault) (a : Result Request HttpFault) → FoundRequest (take max bytes) len start framed
    → IsFramed (request_at (take max bytes) start) framed (max - len) (drop len bytes ++ more) a → IsHttpRequest max (bytes ++ more) a
headed_request max bytes more len start framed a f behind =
    let on = head_on max bytes more (print_request f.head) f.rest len f.reads.1 f.len_is in
    let rest = drop len bytes ++ more in
    let front = take max bytes in
    let token = option_map (span_bytes front) start.token in
    let by_method = subst (λ m. IsFramed (request_from_parts m (span_bytes front start.path) token) framed (max - len) rest a) f.method_is.1 behind in
    let by_path = subst (λ p. IsFramed (request_from_parts f.head.method p token) framed (max - len) rest a) f.path_is.1 by_method in
    let carried = token_of (map name_and_value f.head.fields) in
    let by_token = subst (λ t. IsFramed (request_from_parts f.head.method f.head.target t) framed (max - len) rest a) (token_at front start.token carried f.token_is) by_path in
    let by_framing = subst (λ g. IsFramed (request_from_parts f.head.method f.head.target carried) g (max - len) rest a) f.framing_is by_token in
    let by_len = subst (λ k. IsFramed (request_from_parts f.head.method f.head.target carried) (framing_of_request f.head) (max - k) rest a) f.len_is by_framing in
    inr (record { head = f.head; rest = rest; reads = (f.reads.0, on.0); few = f.few; within = on.1; behind = by_len })
