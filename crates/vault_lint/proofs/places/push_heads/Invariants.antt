-- The lines so far, and those of the rest, are those of the whole.
use Rattle.std.proofs.Common.{◌≡◌, ◌++◌, drop}
use Rattle.vault_lint.specs.Places.{heads_from}
use Rattle.vault_lint.proofs.places.push_heads.Given as goal

abbrev pub invariant-loop-at : goal.invariant-loop-at
invariant-loop-at l = l.heads.items ++ heads_from l.kind l.at (drop l.at l.marks) ≡ l.initial.heads.items ++ heads_from l.kind 0 l.marks
