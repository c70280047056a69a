-- The request that looks a token up can be written, and its text is within the limit of a message.
use Rattle.std.proofs.Common.{◌≤◌, length, subst, sym}
use Rattle.vault_exchange.proofs.Sendable.{token_look, token_look_short}
use Rattle.vault_http.specs.{declared.request.Request.Request, RoundTripRequest.IsWritable, Written.request_text}
use Rattle.vault_exchange.proofs.looking.token_lookup.Goals as goal

pub returns-clause-writable : goal.returns-clause-writable
returns-clause-writable c = subst IsWritable (sym c.in_ok-request.ensures) (token_look c.args.port c.args.credential.now c.requires)

pub returns-clause-short : goal.returns-clause-short
returns-clause-short c = subst (λ (r : Request). length (request_text r) ≤ 1048576) (sym c.in_ok-request.ensures) (token_look_short c.args.port c.args.credential.now c.is_port.ensures c.requires)
