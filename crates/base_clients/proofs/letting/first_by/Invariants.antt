-- The first of those looked at.
use Rattle.std.proofs.Common.{◌≡◌, ◌≤◌, drop, length}
use Rattle.base_clients.specs.Tables.{first_by}
use Rattle.base_clients.proofs.letting.first_by.Given as goal

abbrev pub invariant-loop-at : goal.invariant-loop-at
invariant-loop-at g l = record {
  within : l.at ≤ length l.guests;
  by : l.by ≡ first_by (drop l.at l.guests);
}

abbrev pub decreases-loop-at : goal.decreases-loop-at
decreases-loop-at g l = l.at
