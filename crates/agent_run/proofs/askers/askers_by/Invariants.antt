-- So many are there, each over a lane of its own.
use Rattle.std.proofs.Common.{◌≡◌, All, length}
use Rattle.agent_run.specs.Run.{IsAskerFor}
use Rattle.agent_run.proofs.askers.askers_by.Given as goal

abbrev pub invariant-loop : goal.invariant-loop
invariant-loop g l = record {
  count : length l.askers.items ≡ l.counter;
  each : All (IsAskerFor g.L.Lanes.out g.L.Lanes.seconds g.L.Lanes.width l.served) l.askers.items;
}
