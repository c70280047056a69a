-- A head that was found, with the date that it tells.
use Rattle.std.proofs.Common.{ℕ, List, ◌++◌, Option, Result, Ok, Err, take, drop}
use Rattle.httparse.specs.Grammar.{print_response}
use Rattle.vault_http.specs.{declared.body.BodyFault.BodyFault, declared.framing.Framing.Framing, declared.framing.LengthFault.LengthFault, declared.reply.Reply.Reply, Dates.HasDate, Dates.IsDateOfHead, Dates.IsDatedReply, Dates.dated_with}
use Rattle.vault_http.specs.{Heads.FoundReply, Known.IsHeaded, Known.message_with_body, Messages.IsHttpReply, Messages.reply_with}
use Rattle.vault_http.proofs.MessageLemmas.{head_on}

dated_on : (max : ℕ) (bytes more : List ℕ) (len status : ℕ) (framed : Result Framing LengthFault) (date : Option ℕ) → FoundReply (take max bytes) len status framed
    → IsDateOfHead (take max bytes) date → HasDate (bytes ++ more) date
dated_on max bytes more len status framed date f told =
    let on = head_on max bytes more (print_response f.head) f.rest len f.reads.1 f.len_is in
    record { head = f.head; rest = drop len bytes ++ more; reads = (f.reads.0, on.0); few = f.few; is = told f.head f.rest f.reads f.few }

dated_whole : (max : ℕ) (bytes : List ℕ) (m : Reply) (date : Option ℕ) (body : Result (List ℕ) BodyFault) → HasDate bytes date → IsHttpReply max bytes (message_with_body reply_with m body)
    → IsDatedReply max bytes (message_with_body dated_with (record { reply = m; date = date }) body)
dated_whole max bytes m date (Ok b) has is = (is, has)
dated_whole max bytes m date (Err fault) has is = is

pub dated_headed : (max : ℕ) (bytes : List ℕ) (len status : ℕ) (framed : Result Framing LengthFault) (date : Option ℕ) → FoundReply (take max bytes) len status framed
    → IsDateOfHead (take max bytes) date → (size : ℕ) (m : Reply) (framing : Framing) → IsHeaded (IsHttpReply max) reply_with max bytes size m framing
    → IsHeaded (IsDatedReply max) dated_with max bytes size (record { reply = m; date = date }) framing
dated_headed max bytes len status framed date f told size m framing h = record {
  within = h.within;
  there = h.there;
  answers = λ more body is. dated_whole max (bytes ++ more) m date body (dated_on max bytes more len status framed date f told) (h.answers more body is);
  has_body = λ more d is. h.has_body more d.reply is.0;
}
