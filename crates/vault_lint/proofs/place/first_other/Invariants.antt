-- What is found of all is found of the rest.
use Rattle.std.proofs.Common.{◌≡◌, drop}
use Rattle.vault_lint.specs.FaultPlaces.{first_other}
use Rattle.vault_lint.proofs.place.first_other.Given as goal

abbrev pub invariant-loop-at : goal.invariant-loop-at
invariant-loop-at l = first_other 0 l.marks ≡ first_other l.at (drop l.at l.marks)
