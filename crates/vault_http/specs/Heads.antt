-- What the bytes at the front of an input are as a head of at most 64 fields.
use Rattle.std.specs.Prelude.{◌≡◌, ℕ, ◌≤◌, List, [], ◌∷◌, length, map, Option, None, Some, Result, codes}
use Rattle.httparse.specs.declared.spans.Span.{Span}
use Rattle.httparse.specs.Grammar.{RequestHead, print_request, ReadsRequest, HasNoRequest, MayBecomeRequest, ResponseHead, print_response, ReadsResponse, HasNoResponse, MayBecomeResponse, status_code}
use Rattle.httparse.specs.Spans.{span_bytes, IsWithin, name_and_value, RequestOverflows, ResponseOverflows}
use Rattle.vault_http.specs.{declared.framing.Framing.Framing, declared.framing.Framing.TheVariants.Empty, declared.framing.Framing.TheVariants.ToEnd, declared.framing.LengthFault.LengthFault, declared.found_head.ReplyHead.ReplyHead}
use Rattle.vault_http.specs.{declared.found_head.Start.Start, declared.found_head.RequestFront.RequestFront, declared.found_head.TheConstants.MOST_FIELDS, Fields.values_of, Framing.framing, Framing.reply_framing}
use Rattle.vault_http.specs.declared.found_head.ReplyHead.TheVariants as reply
use Rattle.vault_http.specs.declared.found_head.RequestFront.TheVariants as request

-- the name of the token's field
unfoldable pub token_name : List ℕ
token_name = codes "x-vault-token"

-- the first of several, if there is one
abbrev pub first_value : List (List ℕ) → Option (List ℕ)
first_value [] = None
first_value (value ∷ values) = Some value

-- the token that the fields of a request carry: the first where there are several
abbrev pub token_of : List (List ℕ × List ℕ) → Option (List ℕ)
token_of fields = first_value (values_of token_name fields)

-- the span, if there is one, covers that value
abbrev pub IsAt : List ℕ → Option Span → Option (List ℕ) → Type 0
IsAt front None value = value ≡ None
IsAt front (Some s) value = IsWithin (length front) s × (value ≡ Some (span_bytes front s))

-- the framing of a reply by its head: all to the end of the input where no field says it
abbrev pub framing_of_response : ResponseHead → Result Framing LengthFault
framing_of_response h = reply_framing (status_code h) (framing ToEnd (map name_and_value h.fields))

-- the framing of a request by its head: no body where no field says it
abbrev pub framing_of_request : RequestHead → Result Framing LengthFault
framing_of_request h = framing Empty (map name_and_value h.fields)

-- the front begins with the head of a reply, of that length, status and framing
pub record FoundReply (front : List ℕ) (len status : ℕ) (framed : Result Framing LengthFault) : Type 0 where
  pub head : ResponseHead
  pub rest : List ℕ
  pub reads : ReadsResponse front head rest
  pub few : length head.fields ≤ MOST_FIELDS
  pub len_is : len ≡ length (print_response head)
  pub status_is : status ≡ status_code head
  pub framing_is : framed ≡ framing_of_response head

-- no head yet, none of at most 64 fields whatever follows, or a head
abbrev pub IsReplyHead : List ℕ → ReplyHead → Type 0
IsReplyHead front reply.Open = HasNoResponse front × MayBecomeResponse front
IsReplyHead front reply.Refused = ResponseOverflows MOST_FIELDS front
IsReplyHead front (reply.Found len status framed) = FoundReply front len status framed

-- the front begins with the head of a request, of that length, method, path, token and framing
pub record FoundRequest (front : List ℕ) (len : ℕ) (start : Start) (framed : Result Framing LengthFault) : Type 0 where
  pub head : RequestHead
  pub rest : List ℕ
  pub reads : ReadsRequest front head rest
  pub few : length head.fields ≤ MOST_FIELDS
  pub len_is : len ≡ length (print_request head)
  pub method_is : IsWithin (length front) start.method × (span_bytes front start.method ≡ head.method)
  pub path_is : IsWithin (length front) start.path × (span_bytes front start.path ≡ head.target)
  pub token_is : IsAt front start.token (token_of (map name_and_value head.fields))
  pub framing_is : framed ≡ framing_of_request head

-- no head yet, none of at most 64 fields whatever follows, or a head
abbrev pub IsRequestHead : List ℕ → RequestFront → Type 0
IsRequestHead front request.Open = HasNoRequest front × MayBecomeRequest front
IsRequestHead front request.Refused = RequestOverflows MOST_FIELDS front
IsRequestHead front (request.Found len start framed) = FoundRequest front len start framed
