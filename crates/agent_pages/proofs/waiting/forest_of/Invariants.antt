-- The entries so far, and those to come after them, are all of them.
use Rattle.std.proofs.Common.{◌≡◌, [], drop, map}
use Rattle.agent_pages.specs.Naming.{entries_after, named_by}
use Rattle.agent_pages.proofs.waiting.forest_of.Given as goal

abbrev pub invariant-loop-row : goal.invariant-loop-row
invariant-loop-row l = entries_after l.forest.entries (map named_by (drop l.row-index l.named)) ≡ entries_after [] (map named_by l.named)
