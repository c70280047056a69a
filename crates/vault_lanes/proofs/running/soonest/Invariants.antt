-- The first of all is the first of the others and of what was found so far.
use Rattle.std.proofs.Common.{◌≡◌, drop}
use Rattle.vault_lanes.specs.code.Ways.{soonest}
use Rattle.vault_lanes.proofs.running.soonest.Given as goal

abbrev pub invariant-loop-seat : goal.invariant-loop-seat
invariant-loop-seat g l = soonest g.L.Line.restless l.time l.first (drop l.seat-index l.out) ≡ soonest g.L.Line.restless l.time l.moment l.out
