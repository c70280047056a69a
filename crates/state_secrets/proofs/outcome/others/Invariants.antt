-- What is left so far are those before the current one that stay.
use Rattle.std.proofs.Common.{◌≡◌, take}
use Rattle.std.specs.List.{filter}
use Rattle.state_secrets.specs.Outcomes.{stays}
use Rattle.state_secrets.proofs.outcome.others.Given as goal

abbrev pub invariant-loop-secret : goal.invariant-loop-secret
invariant-loop-secret l = l.left.items ≡ filter (stays l.rows l.name) (take l.secret-index l.secrets)
