-- Those so far are under other indices, and the others are as they were.
use Rattle.std.proofs.Common.{◌≡◌, ◌++◌, drop, map, take}
use Rattle.vault_lanes.specs.Seats.{under}
use Rattle.vault_lanes.proofs.seats.rename.Given as goal

abbrev pub invariant-loop-seat : goal.invariant-loop-seat
invariant-loop-seat g l = l.out ≡ map (under l.from l.to) (take l.seat-index l.fn.out) ++ drop l.seat-index l.fn.out
