-- Running: an agent from its start on: it waits where it has a wait, and then makes 2^64 - 1 turns.
-- Source: this project's own.
use Rattle.std.specs.Prelude.{◌≡◌, ℕ, List, Option, Some, None, length}
use Rattle.agent_standing.specs.Agent.{Agent}
use Rattle.vault_asking.specs.Sending.{Lanes}
use Rattle.base_clock.specs.Seen.{AllMade, ClockSeen}
use Rattle.agent_turns.specs.{Calls.calls_of, Changes.AllGiven, Turns.ServingTurn, declared.change.AgentChange.AgentChange, declared.waiting.Wait.Wait}
use Rattle.agent_turns.specs.Apart.{IsWaitedApart, Waited, all_called, all_clocked, all_given}
use Rattle.agent_turns.specs.Held.{Held, ServingSide, serving_side}
use Rattle.agent_turns.specs.Neighbours.{AllCalled, NeighbourCall, WithCalls}
use Rattle.agent_turns.specs.Runs.{AreTurns, all_calls, all_changes}

-- the greatest u64: of pauses at most, and of turns
abbrev pub MOST : ℕ
MOST = 18446744073709551615

-- until when is waited, and by how many pauses at most; a start that does not wait is one of no pauses
abbrev pub until_in : Option Wait → ℕ
until_in None = 0
until_in (Some w) = w.until

abbrev pub most_pauses : Option Wait → ℕ
most_pauses None = 0
most_pauses (Some w) = MOST

-- and what agent the neighbours see at first
abbrev pub shown_in : Agent → Option Wait → Agent
shown_in own None = own
shown_in own (Some w) = w.shown.agent

module _ {N : Type 0} (does : NeighbourCall → N → N → Type 0) (given : N → Option (List AgentChange)) where
  pub record WaitsFirst (wait : Option Wait) (old new : ServingSide) (clock later : ClockSeen) (before after : N) : Type 0 where
    pub waited : Waited
    pub is : IsWaitedApart (until_in wait) (most_pauses wait) (shown_in old.held.agent wait) old waited new
    pub clocked : AllMade (all_clocked waited) clock later
    pub gives : AllGiven (all_given waited) (given before) (given after)
    pub called : AllCalled does (all_called old.held.agent new.held.agent waited) before after

  -- turns, and all that is called for in them
  pub record MakesTurns (port : ℕ) (old new : ServingSide) (clock later : ClockSeen) (before after : N) : Type 0 where
    pub turns : List ServingTurn
    pub count : length turns ≡ MOST
    pub are : WithCalls does (AreTurns port old turns new) (calls_of port old turns new) before after
    pub clocked : AllMade (all_calls turns) clock later
    pub gives : AllGiven (all_changes turns) (given before) (given after)

  -- first the one, and then the others, over the same lanes
  pub record RunsFrom {C L : Type 0} (clock_seen : C → ClockSeen) (seen : L → Lanes) (port : L → ℕ) (wait : Option Wait) (serving : Held) (lanes : L) (clock : C) (before : N) (lanes_after : L) (clock_after : C) (after : N) : Type 0 where
    pub begun : ServingSide
    pub last : Held
    pub clock_begun : ClockSeen
    pub mid : N
    pub waits : WaitsFirst wait (serving_side serving (seen lanes)) begun (clock_seen clock) clock_begun before mid
    pub turns : MakesTurns (port lanes) begun (serving_side last (seen lanes_after)) clock_begun (clock_seen clock_after) mid after
