-- The laws of replies with their dates: those of replies.
use Rattle.vault_http.proofs.ReplyLaws.{blank_has_no_head, line_ends_head}
use Rattle.vault_http.proofs.dated_reply.DatedReplyMessage.laws.Goals as goal

pub returns-clause-blank : goal.returns-clause-blank
returns-clause-blank c = blank_has_no_head

pub returns-clause-line : goal.returns-clause-line
returns-clause-line c = line_ends_head
