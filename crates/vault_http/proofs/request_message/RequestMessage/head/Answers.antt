-- No head yet, or one that is refused, however the bytes go on.
use Rattle.std.proofs.Common.{subst}
use Rattle.httparse.specs.Spans.{RequestOverflows}
use Rattle.vault_http.specs.{Messages.IsOpenRequest, declared.found_head.TheConstants.MOST_FIELDS}
use Rattle.vault_http.proofs.{RequestLaws.long_request, RequestLaws.open_request, RequestLemmas.refused_request}
use Rattle.vault_http.proofs.request_message.RequestMessage.head.Goals as goal

pub returns-in-Open : goal.returns-in-Open
returns-in-Open c = λ more. long_request c.args.max c.args.bytes.now more c.if-bytes-max.true (subst IsOpenRequest c.front_of.ensures c.in-Open.ensures)

pub returns-in-Open-2 : goal.returns-in-Open-2
returns-in-Open-2 c =
    let o = open_request c.args.max c.args.bytes.now c.if-bytes-max.false (subst IsOpenRequest c.front_of.ensures c.in-Open.ensures) in
    (c.if-bytes-max.false, o.0, o.1)

pub returns-in-Refused : goal.returns-in-Refused
returns-in-Refused c = λ more. refused_request c.args.max c.args.bytes.now more (subst (RequestOverflows MOST_FIELDS) c.front_of.ensures c.in-Refused.ensures)
