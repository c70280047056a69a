-- The ends so far were handed in.
use Rattle.std.proofs.Common.{◌≡◌, take}
use Rattle.agent_turns.specs.Resuming.{AreResumed}
use Rattle.agent_turns.proofs.serving.Serving.hand_all_known.Given as goal

abbrev pub invariant-loop-event : goal.invariant-loop-event
invariant-loop-event l = record {
  resumed : AreResumed (take l.event-index l.known) l.fn.self.agent l.self.agent;
  rest : l.self ≡ record l.fn.self { agent = l.self.agent };
}
