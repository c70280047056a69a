-- The pauses so far were made, and nothing is another by them.
use Rattle.std.proofs.Common.{◌≡◌}
use Rattle.vault_asking.specs.Sending.{lanes_of}
use Rattle.agent_turns.specs.Held.{serving_side}
use Rattle.agent_turns.proofs.Waited.{ArePaused}
use Rattle.agent_turns.proofs.serving.Serving.wait_apart.Given as goal

abbrev pub invariant-loop : goal.invariant-loop
invariant-loop g l = record {
  paused : ArePaused g.N.Neighbours.does l.fn.wait.until l.counter l.fn.self.agent l.fn.wait.shown.agent l.wait.shown.agent (g.C.Clock.seen l.fn.clock) (g.C.Clock.seen l.clock) (g.N.Neighbours.given l.fn.neighbours) (g.N.Neighbours.given l.neighbours) l.fn.neighbours l.neighbours;
  until : l.wait.until ≡ l.fn.wait.until;
  same : serving_side l.self (lanes_of (g.L.Lanes.behind l.lanes) (g.L.Lanes.out l.lanes) (g.L.Lanes.seconds l.lanes)) ≡ serving_side l.fn.self (lanes_of (g.L.Lanes.behind l.fn.lanes) (g.L.Lanes.out l.fn.lanes) (g.L.Lanes.seconds l.fn.lanes));
  width : g.L.Lanes.width l.lanes ≡ g.L.Lanes.width l.fn.lanes;
  port : g.L.Lanes.host_port l.lanes ≡ g.L.Lanes.host_port l.fn.lanes;
}
