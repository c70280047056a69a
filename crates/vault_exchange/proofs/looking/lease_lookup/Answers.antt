-- The request that looks a lease up can be written, and its text is within the limit of a message.
use Rattle.std.proofs.Common.{◌≤◌, length, subst, sym}
use Rattle.vault_exchange.proofs.Sendable.{lease_look, lease_look_short}
use Rattle.vault_http.specs.{declared.request.Request.Request, RoundTripRequest.IsWritable, Written.request_text}
use Rattle.vault_exchange.proofs.looking.lease_lookup.Goals as goal

pub lease_message-requires : goal.lease_message-requires
lease_message-requires c = c.credentials_are_sendable.ensures.text c.args.id.now c.requires.id

pub returns-clause-writable : goal.returns-clause-writable
returns-clause-writable c = subst IsWritable (sym c.in_ok-request.ensures) (lease_look c.args.port c.args.owner c.args.id.now c.requires.owner)

pub returns-clause-short : goal.returns-clause-short
returns-clause-short c = subst (λ (r : Request). length (request_text r) ≤ 1048576) (sym c.in_ok-request.ensures) (lease_look_short c.args.port c.args.owner c.args.id.now c.is_port.ensures c.requires.owner c.requires.id)
