-- Calls: what the neighbours are called for in turns of the loop. They hear of each answer that is handed in, of the time and of what is
-- short then, as it was, and that memory was wanting, where it was; then they go on, once, are asked for a change, and for how long they may
-- be left alone. Where the clocks could not be read they are not called.
-- Source: this project's own.
use Rattle.std.proofs.Common.{inl, inr}
use Rattle.std.specs.Prelude.{ℕ, Bool, true, false, List, [], ◌∷◌, ◌++◌, Option, Some, None}
use Rattle.agent_standing.specs.{Agent.Agent, Shorts.shorts_of}
use Rattle.base_clock.specs.declared.reading.Reading.{Reading}
use Rattle.vault_lanes.specs.declared.lanes.Answered.{Answered}
use Rattle.agent_turns.specs.{Held.Held, Held.ServingSide, Runs.AreTurns}
use Rattle.agent_turns.specs.Neighbours.{Answer, GoOn, Hear, NeighbourCall, Needs, Rest, Thing, Time, Want, WithCalls, calls_for_change}
use Rattle.agent_turns.specs.Stages.{AnswerIsTaken, AnswersAreTaken, HaveTaken, Listed, OnHeld, ShortsAreSaid, TakesAnswers, TakesReadings, of_stages}
use Rattle.agent_turns.specs.Turns.{IsServingTurn, ServingTurn, TurnHears}

-- ---- what is heard

-- an answer, as that of the request that was out of its entry
abbrev pub call_of_answer : (a : Answered) (old new : Agent) → AnswerIsTaken a old new → NeighbourCall
call_of_answer a old new h = Hear new (Answer a.index h.request.operation h.said h.output.notes)

abbrev pub calls_of_answers : (answers : List Answered) (old new : Agent) → AnswersAreTaken answers old new → List NeighbourCall
calls_of_answers [] old new h = []
calls_of_answers (a ∷ rest) old new h = call_of_answer a old h.0 h.1.0 ∷ calls_of_answers rest h.0 new h.1.1

abbrev pub calls_of_taken : (old new : Held) → HaveTaken old new → List NeighbourCall
calls_of_taken old new h = calls_of_answers h.taken old.agent new.agent h.agent

abbrev pub calls_of_taking : (old : Held) (is_whole : Bool) (new : Held) → TakesAnswers old is_whole new → List NeighbourCall
calls_of_taking old true new h = calls_of_taken old new h.0
calls_of_taking old false new h = calls_of_taken old new h.0

-- what is short
abbrev pub needs_of : (old new : Agent) → ShortsAreSaid old new → Thing
needs_of old new (inl same) = Needs None
needs_of old new (inr said) = Needs (Some (shorts_of old))

-- the time, and then that
abbrev pub calls_of_readings : (r : Reading) (old : Held) (is_whole : Bool) (new : Held) → TakesReadings r old is_whole new → List NeighbourCall
calls_of_readings r old true new h = Hear h.mid (Time h.notes new.unsent h.next) ∷ Hear new.agent (needs_of h.mid new.agent h.said) ∷ []
calls_of_readings r old false new h = []

-- ---- in stages

abbrev pub on_held : (stage : Held → Bool → Held → Type 0) → ((old : Held) (is_whole : Bool) (new : Held) → stage old is_whole new → List NeighbourCall) → Listed NeighbourCall (OnHeld stage)
on_held stage calls old is_whole new h = calls old.held is_whole new.held h.0

abbrev pub calls_of_answering : Listed NeighbourCall (OnHeld TakesAnswers)
calls_of_answering = on_held TakesAnswers calls_of_taking

abbrev pub calls_of_reading : (r : Reading) → Listed NeighbourCall (OnHeld (TakesReadings r))
calls_of_reading r = on_held (TakesReadings r) (calls_of_readings r)

-- a stage, and all that they are called for in it
abbrev pub InStage : {N : Type 0} → (NeighbourCall → N → N → Type 0) → (stage : ServingSide → Bool → ServingSide → Type 0) → Listed NeighbourCall stage → ServingSide → Bool → ServingSide → N → N → Type 0
InStage does stage calls old is_whole new a b = WithCalls does (stage old is_whole new) (calls old is_whole new) a b

-- ---- turns

abbrev pub heard_of_want : Bool → Agent → List NeighbourCall
heard_of_want true a = []
heard_of_want false a = Hear a Want ∷ []

-- after the time was handed in, beside the agent as it is then, and after a change beside that as it is
abbrev pub calls_after : Reading → ServingTurn → Agent → Agent → List NeighbourCall
calls_after r t mid new = heard_of_want t.is_whole mid ++ (GoOn mid r t.is_busy ∷ (calls_for_change mid r (λ change. new) t.made ++ Rest r.elapsed t.rest ∷ []))

abbrev pub calls_at : (port : ℕ) (reading : Option Reading) (old : ServingSide) (t : ServingTurn) (mid : ServingSide) → Agent → TurnHears port reading old t.is_whole mid → List NeighbourCall
calls_at port None old t mid new h = []
calls_at port (Some r) old t mid new h = of_stages port r calls_of_answering (calls_of_reading r) old t.is_whole mid h ++ calls_after r t mid.held.agent new

-- one, and one after another
abbrev pub calls_in : (port : ℕ) (old : ServingSide) (t : ServingTurn) (new : ServingSide) → IsServingTurn port old t new → List NeighbourCall
calls_in port old t new h = calls_at port t.reading old t h.mid new.held.agent h.hears

abbrev pub calls_of : (port : ℕ) (old : ServingSide) (turns : List ServingTurn) (new : ServingSide) → AreTurns port old turns new → List NeighbourCall
calls_of port old [] new h = []
calls_of port old (t ∷ rest) new h = calls_in port old t h.0 h.1.0 ++ calls_of port h.0 rest new h.1.1

-- in a turn of the loop, of whatever agent, they were called for what follows from it
abbrev pub TurnCalls : {N : Type 0} → (NeighbourCall → N → N → Type 0) → ServingTurn → N → N → Type 0
TurnCalls does t old new = (port : ℕ) × ((from : ServingSide) × ((to : ServingSide) × WithCalls does (IsServingTurn port from t to) (calls_in port from t to) old new))
