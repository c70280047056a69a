-- Those so far were let in, one for each time that the door was asked.
use Rattle.std.proofs.Common.{◌-◌, ◌≤◌}
use Rattle.base_clients.proofs.Let.{SoFar}
use Rattle.base_clients.proofs.clients.Clients.let_in.Given as goal

abbrev pub invariant-loop-asks : goal.invariant-loop-asks
invariant-loop-asks g l = record {
  within : l.asks ≤ 16;
  so_far : SoFar l.now l.fn.self l.self (g.D.Door.log l.fn.door) (g.D.Door.log l.door) l.asks;
}

abbrev pub decreases-loop-asks : goal.decreases-loop-asks
decreases-loop-asks g l = 16 - l.asks
