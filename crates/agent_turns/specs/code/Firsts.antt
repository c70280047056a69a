-- Firsts: one request goes out, one answer is handed in. No public clause cites them.
-- Source: this project's own.
use Rattle.std.specs.Prelude.{◌≡◌, ℕ, List, [], ◌∷◌}
use Rattle.vault_asking.specs.Sending.{GoesOut}
use Rattle.vault_lanes.specs.declared.lanes.Answered.{Answered}
use Rattle.watch_machine.specs.{declared.command.WatchRequest.WatchRequest, Clocks.second_of_wall}
use Rattle.agent_turns.specs.{Calls.call_of_answer, Held.Held, Held.ServingSide, Neighbours.NeighbourCall, Stages.AnswerIsTaken}

-- the first request that was not sent goes out
pub record GoesFirst (port : ℕ) (old new : ServingSide) : Type 0 where
  pub request : WatchRequest
  pub first : old.held.unsent ≡ request ∷ new.held.unsent
  pub out : GoesOut port old.held.agent.inventory old.held.agent.machine (second_of_wall old.held.asked.wall) old.held.asked.elapsed request old.lanes new.lanes
  pub held : new.held ≡ record old.held { unsent = new.held.unsent }

-- the first answer that waits is handed in
pub record TakesFirst (old new : Held) : Type 0 where
  pub answer : Answered
  pub first : old.pending ≡ answer ∷ new.pending
  pub agent : AnswerIsTaken answer old.agent new.agent
  pub held : new ≡ record old { agent = new.agent; pending = new.pending }

abbrev pub calls_of_first : (old new : Held) → TakesFirst old new → List NeighbourCall
calls_of_first old new h = call_of_answer h.answer old.agent new.agent h.agent ∷ []
