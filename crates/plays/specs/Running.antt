-- Running: an agent beside its lanes.
-- Source: this project's own.
use Rattle.broker_lanes.specs.InMemory.{InMemory}
use Rattle.agent_turns.specs.Held.{Held}

-- what the agent holds between two turns, and the lanes
pub record Both : Type 0 where
  pub held : Held
  pub lanes : InMemory
