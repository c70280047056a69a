-- The first of those looked at is the first of the last of them.
use Rattle.std.proofs.Common.{◌≡◌, ◌≤◌, Some, drop, length}
use Rattle.vault_lanes.specs.{Out.first_at, Seats.outs}
use Rattle.broker_lanes.proofs.lanes.first_at.Given as goal

abbrev pub invariant-loop-at : goal.invariant-loop-at
invariant-loop-at l = record {
  within : l.at ≤ length l.out;
  first : l.first ≡ first_at (outs (λ coming. Some coming) (drop l.at l.out));
}

abbrev pub decreases-loop-at : goal.decreases-loop-at
decreases-loop-at l = l.at
