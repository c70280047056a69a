-- The count is that of the entries before the index, and no more than they are.
use Rattle.std.proofs.Common.{◌≡◌, ◌≤◌}
use Rattle.vault_lint.specs.Doubts.{fullest_of_first}
use Rattle.vault_lint.proofs.all_doubts.fullest.Given as goal

abbrev pub invariant-loop-index : goal.invariant-loop-index
invariant-loop-index l = record { counted : l.count ≡ fullest_of_first l.subject l.index; within : l.count ≤ l.index }
