-- So far it is said of the entries before the index.
use Rattle.std.proofs.Common.{◌≡◌}
use Rattle.vault_lint.specs.Doubts.{has_need_after}
use Rattle.vault_lint.proofs.all_doubts.has_need_after.Given as goal

abbrev pub invariant-loop-index : goal.invariant-loop-index
invariant-loop-index l = l.has ≡ has_need_after l.subject.inventory.forest.entries l.moment l.index
