-- The turns so far were made.
use Rattle.std.proofs.Common.{◌≡◌, List, length}
use Rattle.vault_asking.specs.Sending.{lanes_of}
use Rattle.base_clock.specs.Seen.{AllMade}
use Rattle.agent_turns.specs.{Changes.AllGiven, Held.IsInStep, Held.serving_side, Calls.calls_of, Neighbours.WithCalls, Turns.ServingTurn}
use Rattle.agent_turns.specs.Runs.{AreTurns, all_calls, all_changes}
use Rattle.agent_turns.proofs.serving.Serving.run.Given as goal

abbrev pub invariant-loop : goal.invariant-loop
invariant-loop g l = record {
  turns : (ts : List ServingTurn)
      × ((length ts ≡ l.counter)
      × (WithCalls g.N.Neighbours.does (AreTurns (g.L.Lanes.host_port l.fn.lanes) (serving_side l.fn.self (lanes_of (g.L.Lanes.behind l.fn.lanes) (g.L.Lanes.out l.fn.lanes) (g.L.Lanes.seconds l.fn.lanes))) ts (serving_side l.self (lanes_of (g.L.Lanes.behind l.lanes) (g.L.Lanes.out l.lanes) (g.L.Lanes.seconds l.lanes)))) (calls_of (g.L.Lanes.host_port l.fn.lanes) (serving_side l.fn.self (lanes_of (g.L.Lanes.behind l.fn.lanes) (g.L.Lanes.out l.fn.lanes) (g.L.Lanes.seconds l.fn.lanes))) ts (serving_side l.self (lanes_of (g.L.Lanes.behind l.lanes) (g.L.Lanes.out l.lanes) (g.L.Lanes.seconds l.lanes)))) l.fn.neighbours l.neighbours
      × (AllMade (all_calls ts) (g.C.Clock.seen l.fn.clock) (g.C.Clock.seen l.clock)
      × AllGiven (all_changes ts) (g.N.Neighbours.given l.fn.neighbours) (g.N.Neighbours.given l.neighbours))));
  in_step : IsInStep (g.L.Lanes.width l.lanes) (g.L.Lanes.out l.lanes) l.self;
  width : g.L.Lanes.width l.lanes ≡ g.L.Lanes.width l.fn.lanes;
  port : g.L.Lanes.host_port l.lanes ≡ g.L.Lanes.host_port l.fn.lanes;
}
