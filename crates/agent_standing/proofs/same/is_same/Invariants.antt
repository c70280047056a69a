-- What is said of the entries before the index is the same.
use Rattle.std.proofs.Common.{ℕ, ◌<◌}
use Rattle.agent_standing.specs.code.Same.{IsSameAt}
use Rattle.agent_standing.proofs.same.is_same.Given as goal

abbrev pub invariant-loop-index : goal.invariant-loop-index
invariant-loop-index l = (i : ℕ) → i < l.index → IsSameAt l.one l.other i
