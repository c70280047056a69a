-- The date of a reply (RFC 9110, section 6.6.1): what its one field `Date` tells, a text of one of the three forms of section
-- 5.6.7. None is told where there is no such field, where there are several, and where the text is none of these.
use Rattle.std.specs.Prelude.{◌≡◌, ℕ, ◌<◌, ◌≤◌, ◌^◌, List, [], ◌∷◌, ◌++◌, length, map, codes, IsTrue, Option, None, Result, Ok, Err}
use Rattle.httparse.specs.{Grammar.ResponseHead, Grammar.ReadsResponse, Spans.name_and_value}
use Rattle.httpdate.specs.Date.{parse_secs}
use Rattle.vault_http.specs.{declared.dated_reply.DatedReply.DatedReply, declared.found_head.TheConstants.MOST_FIELDS, declared.http_fault.HttpFault.HttpFault, Fields.values_of, declared.reply.Reply.Reply}
use Rattle.vault_http.specs.{Messages.IsHttpReply, Messages.reply_with, RoundTrip.is_sent, Written.reply_text}

-- the name of the field
unfoldable pub date_name : List ℕ
date_name = codes "date"

-- the second that the one value shows
abbrev pub date_by : List (List ℕ) → Option ℕ
date_by [] = None
date_by (value ∷ []) = parse_secs value
date_by (value ∷ other ∷ values) = None

-- the moment that the fields of a head tell
abbrev pub date_in : List (List ℕ × List ℕ) → Option ℕ
date_in fields = date_by (values_of date_name fields)

-- that is the moment which the head at the front tells, where there is one of at most 64 fields
abbrev pub IsDateOfHead : List ℕ → Option ℕ → Type 0
IsDateOfHead bytes date =
    (head : ResponseHead) (rest : List ℕ) → ReadsResponse bytes head rest → length head.fields ≤ MOST_FIELDS → date ≡ date_in (map name_and_value head.fields)

-- a head of at most 64 fields stands at the front, and that is the moment which it tells
pub record HasDate (bytes : List ℕ) (date : Option ℕ) : Type 0 where
  pub head : ResponseHead
  pub rest : List ℕ
  pub reads : ReadsResponse bytes head rest
  pub few : length head.fields ≤ MOST_FIELDS
  pub is : date ≡ date_in (map name_and_value head.fields)

-- what reading a reply with its date answers: what reading the reply does, and the date of its head
abbrev pub IsDatedReply : ℕ → List ℕ → Result DatedReply HttpFault → Type 0
IsDatedReply max bytes (Ok dated) = IsHttpReply max bytes (Ok dated.reply) × HasDate bytes dated.date
IsDatedReply max bytes (Err fault) = IsHttpReply max bytes (Err fault)

-- the reply with another body
abbrev pub dated_with : DatedReply → List ℕ → DatedReply
dated_with d body = record { reply = reply_with d.reply body; date = d.date }

-- a reply that was written is, without a date, the only answer to its bytes, whatever follows them
abbrev pub ReadsBackUndated : Reply → Type 0
ReadsBackUndated r = IsTrue (is_sent r.status) → length r.body < 10 ^ 15 → (more : List ℕ) (max : ℕ) → length (reply_text r) ≤ max
    → (answer : Result DatedReply HttpFault) → IsDatedReply max (reply_text r ++ more) answer → answer ≡ Ok (record { reply = r; date = None })
