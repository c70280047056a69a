-- What was appended, and what is told of the rest, are what is told of all.
use Rattle.std.proofs.Common.{◌≡◌, ◌++◌, drop}
use Rattle.vault_lint.specs.Doubts.{told}
use Rattle.vault_lint.proofs.all_doubts.push_told.Given as goal

abbrev pub invariant-loop-at : goal.invariant-loop-at
invariant-loop-at l = l.found.items ++ told l.index (drop l.at l.whats) ≡ l.initial.found.items ++ told l.index l.whats
