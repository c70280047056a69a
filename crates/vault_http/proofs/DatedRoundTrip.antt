-- The law that a reply which was written is read back without a date.
use Rattle.std.proofs.Common.{◌≡◌, ℕ, ◌^◌, ◌<◌, IsTrue, List, ◌++◌, length, map, refl, ap, ◌∙◌, arith, Option, None, Ok, Err}
use Rattle.httparse.specs.{Grammar.ReadsResponse, Spans.name_and_value}
use Rattle.httparse.proofs.GrammarLemmas.{response_unique}
use Rattle.vault_http.specs.{declared.reply.Reply.Reply, Dates.HasDate, Dates.ReadsBackUndated, Dates.date_in, Dates.date_name, RoundTrip.is_sent, Written.reply_text}
use Rattle.vault_http.proofs.ReplyRoundTrip.{reads_back, writable, written, written_fields, written_is, written_text}

no_date : (n : ℕ) → date_in (map name_and_value (written_fields n)) ≡ None
unfolding date_name
no_date n = refl

undated : (r : Reply) (more : List ℕ) (date : Option ℕ) → IsTrue (is_sent r.status) → length r.body < 10 ^ 15 → HasDate (reply_text r ++ more) date → date ≡ None
undated r more date sent few h =
    let n = length r.body in
    let reads : ReadsResponse (reply_text r ++ more) (written r.status n) (r.body ++ more) = (written_is r.status n (writable r.status sent) (omega arith), written_text r more) in
    let same = response_unique (reply_text r ++ more) h.head (written r.status n) h.rest (r.body ++ more) h.reads reads in
    h.is ∙ ap (λ g. date_in (map name_and_value g.fields)) same.0 ∙ no_date n

pub reads_back_undated : (r : Reply) → ReadsBackUndated r
reads_back_undated r sent few more max fits (Ok d) is =
    let same : d.reply ≡ r = cc (reads_back r sent few more max fits (Ok d.reply) is.0) in
    let none : d.date ≡ None = undated r more d.date sent few is.1 in
    ap (λ m. Ok (record { reply = m; date = d.date })) same ∙ ap (λ x. Ok (record { reply = r; date = x })) none
reads_back_undated r sent few more max fits (Err fault) is = absurd (cc (reads_back r sent few more max fits (Err fault) is))
