-- What was handed out is all there is.
use Rattle.httparse.specs.Grammar.{HasNoRequest, HasNoResponse}
use Rattle.vault_http.specs.Messages.{IsHttpReply, IsHttpRequest}
use Rattle.vault_http.proofs.Waiting.{held_is_read}
use Rattle.vault_http.proofs.round_trip.held_is_read.Goals as goal

pub returns-clause-reply : goal.returns-clause-reply
returns-clause-reply c = held_is_read HasNoResponse (λ t a. IsHttpReply c.args.max t a)

pub returns-clause-request : goal.returns-clause-request
returns-clause-request c = held_is_read HasNoRequest (λ t a. IsHttpRequest c.args.max t a)
