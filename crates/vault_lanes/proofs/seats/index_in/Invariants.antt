-- It stands at none of the places before this one.
use Rattle.std.proofs.Common.{◌≡◌, ◌-◌, ◌≤◌, drop, length}
use Rattle.vault_lanes.specs.Out.{index_in}
use Rattle.vault_lanes.proofs.seats.index_in.Given as goal

abbrev pub invariant-loop-place : goal.invariant-loop-place
invariant-loop-place l = record {
  is : index_in l.from l.to l.index ≡ index_in (drop l.place l.from) (drop l.place l.to) l.index;
  within : l.place ≤ length l.from;
}

abbrev pub decreases-loop-place : goal.decreases-loop-place
decreases-loop-place l = length l.from - l.place
