-- The answers so far were handed in, and heard of.
use Rattle.std.proofs.Common.{◌≡◌, ◌+◌, length}
use Rattle.agent_turns.specs.{Calls.calls_of_taken, Neighbours.WithCalls, Stages.HaveTaken}
use Rattle.agent_turns.proofs.serving.Serving.take_all.Given as goal

abbrev pub invariant-loop : goal.invariant-loop
invariant-loop g l = record {
  taken : WithCalls g.N.Neighbours.does (HaveTaken l.fn.self l.self) (calls_of_taken l.fn.self l.self) l.fn.neighbours l.neighbours;
  left : length l.self.pending + l.counter ≡ length l.fn.self.pending;
  given : g.N.Neighbours.given l.neighbours ≡ g.N.Neighbours.given l.fn.neighbours;
}
