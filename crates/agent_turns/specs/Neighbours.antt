-- Neighbours: what the loop calls them for.
-- Source: this project's own.
use Rattle.std.specs.Prelude.{◌≡◌, ℕ, Bool, List, [], ◌∷◌, Option, Some, None}
use Rattle.agent_standing.specs.{Agent.Agent, declared.shorts.Short.Short}
use Rattle.vault_asking.specs.declared.told.Said.{Said}
use Rattle.base_clock.specs.declared.reading.Reading.{Reading}
use Rattle.agent_turns.specs.{Changes.MadeChange, declared.change.AgentChange.AgentChange, declared.neighbours.Happened.Happened}
use Rattle.agent_turns.specs.declared.neighbours.Happened.TheVariants as happened
use Rattle.watch_machine.specs.{declared.command.WatchRequest.WatchRequest, declared.event.Operation.Operation, declared.notes.Notes.Notes, declared.outlook.Next.Next}

-- what they may hear of: of an answer that was handed in, its entry, what was asked, what it says and what is noted of it; of the time, what
-- is noted of it, the requests that go out, and the next time where it is told; which needs are short then, or that memory is wanting to say
-- so; an end of an entry that was looked up ahead and handed in; so long ahead of its time the agent steps in for another with these
-- requests; and that memory was wanting
pub data Thing : Type 0 where
  Answer : ℕ → Operation → Said → Notes → Thing
  Time : Notes → List WatchRequest → Option (Option Next) → Thing
  Needs : Option (List Short) → Thing
  End : ℕ → ℕ → Thing
  Step : ℕ → List WatchRequest → Thing
  Want : Thing

abbrev pub thing_of : Happened → Thing
thing_of (happened.Clocked notes requests next) = Time notes.now requests.now next
thing_of (happened.Shorts shorts) = Needs (Some shorts.now)
thing_of (happened.Answered handed) = Answer handed.entry handed.operation handed.said handed.notes.now
thing_of (happened.Ahead entry end) = End entry end
thing_of (happened.StepsIn lead requests) = Step lead requests.now
thing_of happened.Refused = Needs None
thing_of happened.Wanting = Want

-- to an agent something has happened; beside it, at a reading, they go on, and could do more at once or not; so they are asked for a change,
-- and give one or none; they are told whether it was made; at a moment they are asked for how long they may be left alone, and say so or
-- do not
pub data NeighbourCall : Type 0 where
  Hear : Agent → Thing → NeighbourCall
  GoOn : Agent → Reading → Bool → NeighbourCall
  Give : Agent → Reading → Option AgentChange → NeighbourCall
  Settle : Agent → Bool → NeighbourCall
  Rest : ℕ → Option ℕ → NeighbourCall

-- they were called for these, one after another, and nothing else was done to them
abbrev pub AllCalled : {N : Type 0} → (NeighbourCall → N → N → Type 0) → List NeighbourCall → N → N → Type 0
AllCalled does [] old new = new ≡ old
AllCalled {N} does (c ∷ rest) old new = (mid : N) × (does c old mid × AllCalled does rest mid new)

-- this is so, and meanwhile they were called for what follows from it
pub record WithCalls {N : Type 0} (does : NeighbourCall → N → N → Type 0) (P : Type 0) (calls : P → List NeighbourCall) (old new : N) : Type 0 where
  pub is : P
  pub called : AllCalled does (calls is) old new

-- at a reading they are asked for a change, once, and told of one that they gave whether it was made, by the agent as it is then
abbrev pub calls_for_change : Agent → Reading → (AgentChange → Agent) → Option MadeChange → List NeighbourCall
calls_for_change a r told None = Give a r None ∷ []
calls_for_change a r told (Some m) = Give a r (Some m.change) ∷ Settle (told m.change) m.is_made ∷ []
