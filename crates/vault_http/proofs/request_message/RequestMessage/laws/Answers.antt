-- The laws of requests.
use Rattle.vault_http.proofs.RequestLaws.{blank_has_no_head, line_ends_head}
use Rattle.vault_http.proofs.request_message.RequestMessage.laws.Goals as goal

pub returns-clause-blank : goal.returns-clause-blank
returns-clause-blank c = blank_has_no_head

pub returns-clause-line : goal.returns-clause-line
returns-clause-line c = line_ends_head
