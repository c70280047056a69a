-- The request that renews a token can be sent and answered.
use Rattle.std.proofs.Common.{subst, sym}
use Rattle.vault_exchange.specs.Requests.{RequestIsFit}
use Rattle.vault_exchange.proofs.Sendable.{token_fit}
use Rattle.vault_exchange.proofs.requests.token_request.Goals as goal

pub returns-clause-fit : goal.returns-clause-fit
returns-clause-fit c =
    subst RequestIsFit (sym c.in_ok-request.ensures) (token_fit c.args.port c.args.credential.now c.args.step c.are_bounded.ensures.port c.are_bounded.ensures.step c.requires)
