-- The request that renews a lease can be sent and answered.
use Rattle.std.proofs.Common.{subst, sym}
use Rattle.vault_exchange.specs.Requests.{RequestIsFit}
use Rattle.vault_exchange.proofs.Sendable.{lease_fit}
use Rattle.vault_exchange.proofs.requests.lease_request.Goals as goal

pub lease_message-requires : goal.lease_message-requires
lease_message-requires c = c.credentials_are_sendable.ensures.text c.args.id.now c.requires.id

pub returns-clause-fit : goal.returns-clause-fit
returns-clause-fit c =
    subst RequestIsFit (sym c.in_ok-request.ensures)
    (lease_fit c.args.port c.args.owner c.args.id.now c.args.step c.are_bounded.ensures.port c.are_bounded.ensures.step c.requires.owner c.requires.id)
