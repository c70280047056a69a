-- The copies so far are those of the secrets before the current one.
use Rattle.std.proofs.Common.{◌≡◌, take}
use Rattle.state_changes.proofs.secret.copy_secrets.Given as goal

abbrev pub invariant-loop-secret : goal.invariant-loop-secret
invariant-loop-secret l = l.copies.items ≡ take l.secret-index l.secrets
