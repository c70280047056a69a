-- What is found of all is found of the rest.
use Rattle.std.proofs.Common.{◌≡◌, drop}
use Rattle.vault_lint.specs.Places.{first_in}
use Rattle.vault_lint.proofs.places.first_in.Given as goal

abbrev pub invariant-loop-at : goal.invariant-loop-at
invariant-loop-at l = first_in l.sought l.from (drop l.from l.marks) ≡ first_in l.sought l.at (drop l.at l.marks)
