-- Those before the place have no greater index.
use Rattle.std.proofs.Common.{◌≤◌, ◌-◌, All, length, take}
use Rattle.vault_lanes.proofs.seats.place_for.Given as goal

abbrev pub invariant-loop-place : goal.invariant-loop-place
invariant-loop-place g l = record {
  within : l.place ≤ length l.out;
  lower : All (λ seat. seat.index ≤ l.index) (take l.place l.out);
}

abbrev pub decreases-loop-place : goal.decreases-loop-place
decreases-loop-place g l = length l.out - l.place
