-- All needs are those from the first moment on.
use Rattle.std.proofs.Common.{◌≡◌, ℕ, IfSome, Option, subst}
use Rattle.plan_needs.specs.Carried.{IsCarried}
use Rattle.vault_lint.proofs.reading.carried_of_all.Goals as goal

pub returns-in-Ok : goal.returns-in-Ok
returns-in-Ok c =
    let start : c.unwrap.result ≡ 0 = subst (λ (o : Option ℕ). IfSome o (λ m. m ≡ 0)) c.unwrap.ensures c.new.ensures.value in
    subst (λ n. IsCarried c.args.forest.now n c.in-Ok.carried) start c.in-Ok.ensures
