-- Where the head of a reply is refused, the answer is BadHead however the bytes go on.
use Rattle.std.proofs.Common.{subst}
use Rattle.httparse.specs.Spans.{ResponseOverflows}
use Rattle.vault_http.proofs.MessageLemmas.{refused_reply}
use Rattle.vault_http.proofs.reply_message.ReplyMessage.head.Goals as goal
use Rattle.vault_http.specs.declared.found_head.TheConstants.{MOST_FIELDS}

pub returns-in-Refused : goal.returns-in-Refused
returns-in-Refused c = λ more. refused_reply c.args.max c.args.bytes.now more (subst (ResponseOverflows MOST_FIELDS) c.front_of.ensures c.in-Refused.ensures)
