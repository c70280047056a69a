-- The laws of requests as messages, and what the head of one says of it.
use Rattle.std.proofs.Common.{◌≡◌, ℕ, ◌-◌, ◌<◌, ◌≤◌, inl, inr, List, ◌++◌, ◌∷◌, [], length, take, drop, IsTrue, refl, sym, ap, ◌∙◌, arith, subst, map, Option, option_map, Result, Ok, Err, length-append}
use Rattle.std.proofs.lemmas.{Bool.cases_lt, List.take_all, List.take-append-le}
use Rattle.std.specs.List.{list_all}
use Rattle.httparse.specs.{Grammar.print_request, Grammar.print_blank, Grammar.print_version, Grammar.print_end, Grammar.print_section, Grammar.HasNoRequest, Spans.name_and_value, Spans.span_bytes}
use Rattle.httparse.proofs.GrammarLemmas.{print_request-append, request_unique}
use Rattle.vault_http.specs.{declared.body.BodyFault.BodyFault, declared.framing.Framing.Framing, declared.framing.LengthFault.LengthFault, declared.found_head.Start.Start}
use Rattle.vault_http.specs.{declared.http_fault.HttpFault.TheVariants.TooLong, declared.http_fault.HttpFault.TheVariants.Truncated, declared.request.Request.Request, EmptyLine.HasLineBehind, EmptyLine.is_line_end_byte}
use Rattle.vault_http.specs.{Heads.FoundRequest, Heads.framing_of_request, Heads.token_of, Known.IsHeaded, Known.message_with_body}
use Rattle.vault_http.specs.{Messages.IsFramed, Messages.IsHttpRequest, Messages.IsOpenRequest, Messages.request_from_parts, Messages.request_with, Starts.request_at}
use Rattle.vault_http.proofs.{EmptyLines.front_split, EmptyLines.line_behind, EmptyLines.request_ends, EmptyLines.not_blank, MessageLemmas.HasBodyOf, MessageLemmas.head_on, RequestLemmas.headed_request}

pub blank_has_no_head : (bytes : List ℕ) → IsTrue (list_all is_line_end_byte bytes) → HasNoRequest bytes
blank_has_no_head bytes all h rest reads =
    let t = h.target ++ (32 ∷ (print_version h.minor ++ (print_end h.line_end ++ (print_section h.fields h.last ++ rest)))) in
    let e : bytes ≡ print_blank h.blank ++ (h.method ++ (32 ∷ t)) = reads.1 ∙ print_request-append h rest in
    not_blank (print_blank h.blank) h.method t (sym (ap (list_all is_line_end_byte) e) ∙ all)

pub line_ends_head : (bytes more : List ℕ) → HasNoRequest bytes → (HasLineBehind (length bytes) (bytes ++ more) → ⊥) → HasNoRequest (bytes ++ more)
line_ends_head bytes more none quiet h rest reads = elim (cases_lt (length bytes) (length (print_request h))) [
  | inl past ↦ quiet (line_behind h.last bytes more (print_request h) rest reads.1 (request_ends h) past)
  | inr within ↦ none h (drop (length (print_request h)) bytes) (reads.0, front_split bytes more (print_request h) rest reads.1 within)
]

-- ---- no head

pub long_request : (max : ℕ) (bytes more : List ℕ) → max ≤ length bytes → IsOpenRequest (take max bytes) → IsHttpRequest max (bytes ++ more) (Err TooLong)
long_request max bytes more long o = inl (TooLong, (omega (arith, long, length-append bytes more), subst IsOpenRequest (sym (take-append-le max bytes more long)) o), refl)

pub open_request : (max : ℕ) (bytes : List ℕ) → length bytes < max → IsOpenRequest (take max bytes) → IsHttpRequest max bytes (Err Truncated) × HasNoRequest bytes
open_request max bytes short o =
    let all : IsOpenRequest bytes = subst IsOpenRequest (take_all max bytes (omega (arith, short))) o in
    (inl (Truncated, (short, all), refl), all.0)

-- ---- after a head

request_body : (method path : List ℕ) (token : Option (List ℕ)) (framed : Result Framing LengthFault) (room : ℕ) (rest : List ℕ) (message : Request)
    → IsFramed (request_from_parts method path token) framed room rest (Ok message) → HasBodyOf framed room rest
request_body method path token (Err fault) room rest message e = absurd (cc (e))
request_body method path token (Ok framed) room rest message (Ok body, is, e) = (body, is)
request_body method path token (Ok framed) room rest message (Err fault, is, e) = absurd (cc (e))

found_request_body : (max : ℕ) (bytes : List ℕ) (len : ℕ) (start : Start) (framed : Result Framing LengthFault) → FoundRequest (take max bytes) len start framed
    → (more : List ℕ) (message : Request) → IsHttpRequest max (bytes ++ more) (Ok message) → HasBodyOf framed (max - len) (drop len bytes ++ more)
found_request_body max bytes len start framed f more message (inl h) = absurd (cc (h.2))
found_request_body max bytes len start framed f more message (inr h) =
    let on = head_on max bytes more (print_request f.head) f.rest len f.reads.1 f.len_is in
    let rest = drop len bytes ++ more in
    let same = request_unique (bytes ++ more) h.head f.head h.rest rest h.reads (f.reads.0, on.0) in
    let body = request_body h.head.method h.head.target (token_of (map name_and_value h.head.fields)) (framing_of_request h.head) (max - length (print_request h.head)) h.rest message h.behind in
    let by_rest = subst (λ r. HasBodyOf (framing_of_request h.head) (max - length (print_request h.head)) r) same.1 body in
    let by_head = subst (λ g. HasBodyOf (framing_of_request g) (max - length (print_request g)) rest) same.0 by_rest in
    let by_len = subst (λ k. HasBodyOf (framing_of_request f.head) (max - k) rest) (sym f.len_is) by_head in
    subst (λ g. HasBodyOf g (max - len) rest) (sym f.framing_is) by_len

-- the request of the parts of a head, without a body
abbrev pub bodiless : List ℕ → Start → Request
bodiless front start = record { method = span_bytes front start.method; path = span_bytes front start.path; token = option_map (span_bytes front) start.token; body = []; port = 0 }

same_request : (front : List ℕ) (start : Start) (body : Result (List ℕ) BodyFault) → message_with_body request_with (bodiless front start) body ≡ request_at front start body
same_request front start (Ok body) = refl
same_request front start (Err fault) = refl

pub headed : (max : ℕ) (bytes : List ℕ) (len : ℕ) (start : Start) (framed : Framing) → FoundRequest (take max bytes) len start (Ok framed)
    → IsHeaded (IsHttpRequest max) request_with max bytes len (bodiless (take max bytes) start) framed
headed max bytes len start framed f =
    let on = head_on max bytes [] (print_request f.head) f.rest len f.reads.1 f.len_is in record {
      within = omega (arith, on.1, f.len_is);
      there = omega (arith, on.2, f.len_is);
      answers = λ more body is. headed_request max bytes more len start (Ok framed) (message_with_body request_with (bodiless (take max bytes) start) body) f (body, is, same_request (take max bytes) start body);
      has_body = λ more message is. found_request_body max bytes len start (Ok framed) f more message is;
    }
