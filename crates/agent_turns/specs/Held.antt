-- Held: what the agent holds between two turns, and that it is in step with its lanes.
-- Source: this project's own.
use Rattle.std.specs.Prelude.{◌≡◌, ℕ, ◌+◌, ◌<◌, ◌≤◌, All, List, [], length, map}
use Rattle.agent_standing.specs.Agent.{Agent}
use Rattle.base_clock.specs.declared.reading.Reading.{Reading}
use Rattle.vault_lanes.specs.Out as lanes
use Rattle.vault_lanes.specs.declared.lanes.Answered.{Answered}
use Rattle.vault_asking.specs.Sending.{Lanes}
use Rattle.vault_asking.specs.InStep.{MachineIsSound, entries_answered, entries_on, entries_out, times}
use Rattle.watch_machine.specs.declared.command.WatchRequest.{WatchRequest}

-- the agent; the answers that came and are not handed in yet; the requests that the Watch commands and that are not sent yet; the
-- reading at which it commanded them; and the moment of the same clock before which nothing else is to be done
pub record Held : Type 0 where
  pub agent : Agent
  pub pending : List Answered
  pub unsent : List WatchRequest
  pub asked : Reading
  pub until : ℕ

abbrev pub entries_unsent : List WatchRequest → List ℕ
entries_unsent unsent = map (λ r. r.entry) unsent

-- what the Watch has out is on a lane, or its answer waits to be handed in, or it waits to be sent, which is then of an entry; and as many may
-- be out as there are lanes
pub record IsInStep (width : ℕ) (out : List lanes.Out) (h : Held) : Type 0 where
  pub width_is : h.agent.machine.width ≡ width
  pub room : length h.agent.machine.out ≤ width
  pub sound : MachineIsSound h.agent.machine
  pub count : length out + (length h.pending + length h.unsent) ≡ length h.agent.machine.out
  pub named : All (λ (r : WatchRequest). r.entry < length h.agent.machine.forest.entries) h.unsent
  pub each : (i : ℕ) → times i (entries_on out) + (times i (entries_answered h.pending) + times i (entries_unsent h.unsent)) ≡ times i (entries_out h.agent.machine)

-- what is held, and the lanes
pub record ServingSide : Type 0 where
  pub held : Held
  pub lanes : Lanes

abbrev pub serving_side : Held → Lanes → ServingSide
serving_side held lanes = record { held = held; lanes = lanes }

-- an agent that has done nothing yet
abbrev pub held_at_first : Agent → Held
held_at_first a = record { agent = a; pending = []; unsent = []; asked = record { wall = 0; elapsed = 0 }; until = 0 }
