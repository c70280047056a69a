-- The requests so far have gone out.
use Rattle.std.proofs.Common.{◌≡◌, ◌+◌, length}
use Rattle.vault_asking.specs.Sending.{lanes_of}
use Rattle.agent_turns.specs.{Held.serving_side, Stages.HaveGone}
use Rattle.agent_turns.proofs.serving.Serving.send_all.Given as goal

abbrev pub invariant-loop : goal.invariant-loop
invariant-loop g l = record {
  gone : HaveGone (g.L.Lanes.host_port l.fn.lanes) (serving_side l.fn.self (lanes_of (g.L.Lanes.behind l.fn.lanes) (g.L.Lanes.out l.fn.lanes) (g.L.Lanes.seconds l.fn.lanes))) (serving_side l.self (lanes_of (g.L.Lanes.behind l.lanes) (g.L.Lanes.out l.lanes) (g.L.Lanes.seconds l.lanes)));
  left : length l.self.unsent + l.counter ≡ length l.fn.self.unsent;
  width : g.L.Lanes.width l.lanes ≡ g.L.Lanes.width l.fn.lanes;
  port : g.L.Lanes.host_port l.lanes ≡ g.L.Lanes.host_port l.fn.lanes;
}
