-- A credential can be sent, be it the secret of a token or the id of a lease.
use Rattle.std.proofs.Common.{◌∙◌, ◌<◌, ◌≤◌, ℕ, List, ◌++◌, ◌-◌, ap, length, arith, subst, sym}
use Rattle.vault_inventory.specs.Inventories.{IsSendableText, credential_at}
use Rattle.vault_inventory.proofs.Inventories.{first_half, second_half, sendable_at}
use Rattle.vault_inventory.proofs.inventory.Credentials.get.Goals as goal

pub returns-then-index-tokens-clause-sendable : goal.returns-then-index-tokens-clause-sendable
returns-then-index-tokens-clause-sendable c =
    let secrets = c.self.inside.secrets in
    let ids = c.self.inside.lease_ids in
    let all : c.args.index < length (secrets ++ ids) = subst (λ (cs : List (List ℕ)). c.args.index < length cs) (sym c.self.view_is) c.requires in
    let low : c.args.index < length secrets = omega (arith, c.if-index-tokens.true, c.len-tokens.ensures) in
    subst IsSendableText (sym (c.get.ensures ∙ first_half secrets ids c.args.index low)) (sendable_at (secrets ++ ids) c.args.index all c.self.invariant)

pub returns-else-index-tokens-clause-sendable : goal.returns-else-index-tokens-clause-sendable
returns-else-index-tokens-clause-sendable c =
    let secrets = c.self.inside.secrets in
    let ids = c.self.inside.lease_ids in
    let all : c.args.index < length (secrets ++ ids) = subst (λ (cs : List (List ℕ)). c.args.index < length cs) (sym c.self.view_is) c.requires in
    let high : length secrets ≤ c.args.index = omega (arith, c.if-index-tokens.false, c.len-tokens.ensures) in
    subst IsSendableText (sym (c.get-else-index-tokens.ensures ∙ ap (λ n. credential_at ids (c.args.index - n)) c.len-tokens.ensures ∙ second_half secrets ids c.args.index high)) (sendable_at (secrets ++ ids) c.args.index all c.self.invariant)
