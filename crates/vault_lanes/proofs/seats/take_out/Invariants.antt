-- Those so far were handed back, or are left, and there is room for the answers of the others.
use Rattle.std.proofs.Common.{◌+◌, ◌-◌, ◌≤◌}
use Rattle.std.specs.Vec.{vec_capacity, vec_len}
use Rattle.vault_lanes.proofs.TakenOut.{SoFar}
use Rattle.vault_lanes.proofs.seats.take_out.Given as goal

abbrev pub invariant-loop-at : goal.invariant-loop-at
invariant-loop-at g l = record {
  within : l.at ≤ vec_len l.out;
  room : vec_len l.answers + vec_len l.out ≤ vec_capacity l.answers;
  so_far : SoFar g.T.Standing.comes (g.T.Standing.there l.moment) g.T.Standing.said l.fn.out.items l.out.items l.at l.answers.items;
}

abbrev pub decreases-loop-at : goal.decreases-loop-at
decreases-loop-at g l = vec_len l.out - l.at
