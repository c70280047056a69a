-- So far the doubts of the entries before the index were appended.
use Rattle.std.proofs.Common.{◌≡◌, ◌++◌}
use Rattle.vault_lint.specs.Doubts.{doubts_of_first}
use Rattle.vault_lint.proofs.all_doubts.push_entries.Given as goal

abbrev pub invariant-loop-index : goal.invariant-loop-index
invariant-loop-index l = l.found.items ≡ l.initial.found.items ++ doubts_of_first l.subject l.whole l.index
