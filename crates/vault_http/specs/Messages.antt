-- A message: the relation between all the bytes of an input, the most that may be read of it, and the answer
-- (RFC 9112, sections 2 to 6). Bytes after the message do not count.
use Rattle.std.specs.Prelude.{◌≡◌, ℕ, ◌-◌, ◌<◌, ◌≤◌, ◌⊎◌, Bool, true, false, ◌&&◌, nat_le, nat_lt, List, length, take, map, Option, Result, Ok, Err}
use Rattle.httparse.specs.Grammar.{RequestHead, print_request, ReadsRequest, HasNoRequest, MayBecomeRequest, ResponseHead, print_response, ReadsResponse, HasNoResponse, MayBecomeResponse, status_code}
use Rattle.httparse.specs.Spans.{name_and_value, RequestOverflows, ResponseOverflows}
use Rattle.vault_http.specs.{declared.body.BodyFault.BodyFault, declared.framing.Framing.Framing, declared.framing.LengthFault.LengthFault, declared.http_fault.HttpFault.HttpFault}
use Rattle.vault_http.specs.{declared.http_fault.HttpFault.TheVariants.BadHead, declared.http_fault.HttpFault.TheVariants.BadLength, declared.http_fault.HttpFault.TheVariants.BadChunk, declared.http_fault.HttpFault.TheVariants.Truncated, declared.http_fault.HttpFault.TheVariants.TooLong, declared.http_fault.HttpFault.TheVariants.TwoLengths, declared.http_fault.HttpFault.TheVariants.OutOfMemory}
use Rattle.vault_http.specs.{declared.reply.Reply.Reply, declared.request.Request.Request, Body.IsMessageBody, Heads.token_of, Heads.framing_of_response, Heads.framing_of_request, declared.found_head.TheConstants.MOST_FIELDS}
use Rattle.vault_http.specs.declared.body.BodyFault.TheVariants as bodies
use Rattle.vault_http.specs.declared.framing.LengthFault.TheVariants as lengths

-- the faults of a body and of its length, as faults of the message
abbrev pub body_fault : BodyFault → HttpFault
body_fault bodies.TooLong = TooLong
body_fault bodies.Truncated = Truncated
body_fault bodies.BadChunk = BadChunk
body_fault bodies.OutOfMemory = OutOfMemory

abbrev pub length_fault : LengthFault → HttpFault
length_fault lengths.BadLength = BadLength
length_fault lengths.TwoLengths = TwoLengths

-- an input in which no head of at most 64 fields is complete within the first `max` bytes: none can come of them, or the
-- input ends before `max`, or it has as many
abbrev pub IsHeadless : (List ℕ → Type 0) → (List ℕ → Type 0) → ℕ → List ℕ → HttpFault → Type 0
IsHeadless IsOpen Overflows max bytes BadHead = Overflows (take max bytes)
IsHeadless IsOpen Overflows max bytes Truncated = (length bytes < max) × IsOpen bytes
IsHeadless IsOpen Overflows max bytes TooLong = (max ≤ length bytes) × IsOpen (take max bytes)
IsHeadless IsOpen Overflows max bytes fault = ⊥

-- no head yet, and one may come
abbrev pub IsOpenReply : List ℕ → Type 0
IsOpenReply bytes = HasNoResponse bytes × MayBecomeResponse bytes

abbrev pub IsOpenRequest : List ℕ → Type 0
IsOpenRequest bytes = HasNoRequest bytes × MayBecomeRequest bytes

-- the reply or the request of its parts
abbrev pub reply_from_parts : ℕ → Result (List ℕ) BodyFault → Result Reply HttpFault
reply_from_parts status (Ok body) = Ok (record { status = status; body = body })
reply_from_parts status (Err fault) = Err (body_fault fault)

abbrev pub request_from_parts : List ℕ → List ℕ → Option (List ℕ) → Result (List ℕ) BodyFault → Result Request HttpFault
request_from_parts method path token (Ok body) = Ok (record { method = method; path = path; token = token; body = body; port = 0 })
request_from_parts method path token (Err fault) = Err (body_fault fault)

-- the reply or the request with another body
abbrev pub reply_with : Reply → List ℕ → Reply
reply_with m body = record { status = m.status; body = body }

abbrev pub request_with : Request → List ℕ → Request
request_with m body = record { method = m.method; path = m.path; token = m.token; body = body; port = m.port }

-- what stands after a head with that framing, of which so many bytes may be read
abbrev pub IsFramed : {A : Type 0} → (Result (List ℕ) BodyFault → Result A HttpFault) → Result Framing LengthFault → ℕ → List ℕ → Result A HttpFault → Type 0
IsFramed whole (Err fault) room rest answer = answer ≡ Err (length_fault fault)
IsFramed whole (Ok framed) room rest answer = (body : Result (List ℕ) BodyFault) × IsMessageBody framed room rest body × (answer ≡ whole body)

-- a status from 100 to 199, which is not read
abbrev pub is_informational : ℕ → Bool
is_informational status = nat_le 100 status && nat_lt status 200

-- the answer after the head of a reply
abbrev pub IsBehind : Bool → ℕ → Result Framing LengthFault → ℕ → List ℕ → Result Reply HttpFault → Type 0
IsBehind true status framed room rest answer = answer ≡ Err BadHead
IsBehind false status framed room rest answer = IsFramed (reply_from_parts status) framed room rest answer

-- an input with the head of a reply within its first `max` bytes
pub record IsHeadedReply (max : ℕ) (bytes : List ℕ) (answer : Result Reply HttpFault) : Type 0 where
  pub head : ResponseHead
  pub rest : List ℕ
  pub reads : ReadsResponse bytes head rest
  pub few : length head.fields ≤ MOST_FIELDS
  pub within : length (print_response head) ≤ max
  pub behind : IsBehind (is_informational (status_code head)) (status_code head) (framing_of_response head) (max - length (print_response head)) rest answer

-- what reading a reply answers
abbrev pub IsHttpReply : ℕ → List ℕ → Result Reply HttpFault → Type 0
IsHttpReply max bytes answer = ((fault : HttpFault) × IsHeadless IsOpenReply (ResponseOverflows MOST_FIELDS) max bytes fault × (answer ≡ Err fault)) ⊎ IsHeadedReply max bytes answer

-- an input with the head of a request within its first `max` bytes
pub record IsHeadedRequest (max : ℕ) (bytes : List ℕ) (answer : Result Request HttpFault) : Type 0 where
  pub head : RequestHead
  pub rest : List ℕ
  pub reads : ReadsRequest bytes head rest
  pub few : length head.fields ≤ MOST_FIELDS
  pub within : length (print_request head) ≤ max
  pub behind : IsFramed (request_from_parts head.method head.target (token_of (map name_and_value head.fields))) (framing_of_request head) (max - length (print_request head)) rest answer

-- what reading a request answers; the port is no part of the message
abbrev pub IsHttpRequest : ℕ → List ℕ → Result Request HttpFault → Type 0
IsHttpRequest max bytes answer = ((fault : HttpFault) × IsHeadless IsOpenRequest (RequestOverflows MOST_FIELDS) max bytes fault × (answer ≡ Err fault)) ⊎ IsHeadedRequest max bytes answer

-- said of every answer but lack of memory
abbrev pub UnlessMemory : {A : Type 0} → Result A HttpFault → Type 0 → Type 0
UnlessMemory (Ok x) P = P
UnlessMemory (Err OutOfMemory) P = Unit {0}
UnlessMemory (Err fault) P = P

abbrev pub UnlessBodyMemory : {A : Type 0} → Result A BodyFault → Type 0 → Type 0
UnlessBodyMemory (Ok x) P = P
UnlessBodyMemory (Err bodies.OutOfMemory) P = Unit {0}
UnlessBodyMemory (Err fault) P = P
