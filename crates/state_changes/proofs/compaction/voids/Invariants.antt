-- The answers so far are those of the records from the place on, the last first, and the needs of these are known.
use Rattle.std.proofs.Common.{◌≡◌, ◌≤◌, drop, length, reverse}
use Rattle.state_changes.specs.{Compaction.voids, code.Needed.AreNeedsOf}
use Rattle.state_changes.proofs.compaction.voids.Given as goal

abbrev pub invariant-loop-index : goal.invariant-loop-index
invariant-loop-index l = record {
  within : l.index ≤ length l.records;
  outs : reverse l.outs.items ≡ voids (drop l.index l.records);
  needs : AreNeedsOf l.later (drop l.index l.records);
}

abbrev pub decreases-loop-index : goal.decreases-loop-index
decreases-loop-index l = l.index
