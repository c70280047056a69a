-- The one of those looked at that has been idle longest.
use Rattle.std.proofs.Common.{◌≡◌, ◌≤◌, drop, length}
use Rattle.base_clients.specs.Tables.{idle_since}
use Rattle.base_clients.proofs.letting.idle_since.Given as goal

abbrev pub invariant-loop-at : goal.invariant-loop-at
invariant-loop-at g l = record {
  within : l.at ≤ length l.guests;
  since : l.since ≡ idle_since (drop l.at l.guests);
}

abbrev pub decreases-loop-at : goal.decreases-loop-at
decreases-loop-at g l = l.at
