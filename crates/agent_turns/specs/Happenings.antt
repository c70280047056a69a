-- Happenings: what happens to the Watch in turns of the loop. The readings, each answer that is handed in, and each need, beginning and
-- known end that is taken, are handed in as the event that they say; where another inventory is served, its forest is watched from then
-- on. Nothing else happens to it.
-- Source: this project's own.
use Rattle.std.proofs.Common.{inl, inr}
use Rattle.std.specs.Prelude.{ℕ, Bool, true, false, List, [], ◌∷◌, ◌++◌, Option, Some, None, Result, Ok}
use Rattle.agent_standing.specs.{Agent.Agent, Changed.all_was}
use Rattle.vault_asking.specs.Told.{event_of_answer}
use Rattle.base_clock.specs.declared.reading.Reading.{Reading}
use Rattle.vault_inventory.specs.Inventories.{Inventory}
use Rattle.vault_lanes.specs.declared.lanes.Answered.{Answered}
use Rattle.watch_machine.specs.{declared.command.WatchCommand.TheVariants.Go, declared.command.WatchOutput.WatchOutput, declared.event.WatchEvent.WatchEvent, declared.fault.WatchFault.WatchFault}
use Rattle.watch_machine.specs.History.{Happening, Hands, Changes}
use Rattle.watch_machine.specs.declared.event.WatchEvent.TheVariants as events
use Rattle.agent_turns.specs.{Held.ServingSide, Runs.AreTurns, declared.change.AgentChange.AgentChange}
use Rattle.agent_turns.specs.Changes.{ChangeIsMade, MadeChange, OneIsMade, ServesInventory}
use Rattle.agent_turns.specs.Stages.{AnswerIsTaken, AnswersAreTaken, LeftOverGoesFirst, Listed, OnHeld, TakesAnswers, TakesReadings, of_stages}
use Rattle.agent_turns.specs.Turns.{IsServingTurn, ServingTurn, TurnHears}
use Rattle.agent_turns.specs.declared.change.AgentChange.TheVariants.{Need, Begin, Known, Serve, Kept}

-- the event was handed in, and this came of it
abbrev pub handed : WatchEvent → Result WatchOutput WatchFault → Agent → Happening
handed event result new = Hands (record { event = event; result = result; state = new.machine })

-- ---- answers

-- an answer, as that to the request that was out of its entry
abbrev pub happening_of_answer : (a : Answered) (old new : Agent) → AnswerIsTaken a old new → Happening
happening_of_answer a old new h = handed (event_of_answer old.inventory h.request.operation a) (Ok h.output) new

abbrev pub happenings_of_answers : (answers : List Answered) (old new : Agent) → AnswersAreTaken answers old new → List Happening
happenings_of_answers [] old new h = []
happenings_of_answers (a ∷ rest) old new h = happening_of_answer a old h.0 h.1.0 ∷ happenings_of_answers rest h.0 new h.1.1

-- ---- stages

-- the answers that are handed in
abbrev pub happenings_of_taking : Listed Happening (OnHeld TakesAnswers)
happenings_of_taking old true new h = happenings_of_answers h.0.0.taken old.held.agent new.held.agent h.0.0.agent
happenings_of_taking old false new h = happenings_of_answers h.0.0.taken old.held.agent new.held.agent h.0.0.agent

-- the readings of the clocks
abbrev pub happenings_of_readings : (r : Reading) → Listed Happening (OnHeld (TakesReadings r))
happenings_of_readings r old true new h = handed (events.Clock r.wall r.elapsed) (Ok (record { command = Go new.held.unsent h.0.until; notes = h.0.notes })) h.0.mid ∷ []
happenings_of_readings r old false new h = []

-- the answers that were left over, those that came, and the readings
abbrev pub happenings_of_stages : (port : ℕ) (r : Reading) → Listed Happening (LeftOverGoesFirst port r)
happenings_of_stages port r = of_stages port r happenings_of_taking (happenings_of_readings r)

abbrev pub happenings_of_hearing : (port : ℕ) (reading : Option Reading) (old : ServingSide) (is_whole : Bool) (new : ServingSide) → TurnHears port reading old is_whole new → List Happening
happenings_of_hearing port None old is_whole new h = []
happenings_of_hearing port (Some r) old is_whole new h = happenings_of_stages port r old is_whole new h

-- ---- changes

-- another inventory that is served is a change of what is watched; the same is none
abbrev pub happenings_of_serving : (s : Inventory) (old new : ServingSide) → ServesInventory s old new → List Happening
happenings_of_serving s old new (inl h) = []
happenings_of_serving s old new (inr h) = Changes (record { forest = s.forest; was = all_was old.held.agent.inventory s; state = new.held.agent.machine }) ∷ []

-- a change that memory sufficed to make; an event that the Watch refuses is one, too
abbrev pub happenings_of_change : (c : AgentChange) (is_made : Bool) (old new : ServingSide) → ChangeIsMade c is_made old new → List Happening
happenings_of_change c false old new h = []
happenings_of_change (Need i until) true old new h = handed (events.Need i until) h.result new.held.agent ∷ []
happenings_of_change Begin true old new h = handed events.Begin h.result new.held.agent ∷ []
happenings_of_change (Known i end renewable) true old new h = handed (events.Known i end renewable) h.result new.held.agent ∷ []
happenings_of_change (Serve s) true old new h = happenings_of_serving s old new h
happenings_of_change Kept true old new h = []

abbrev pub happenings_of_one : (made : Option MadeChange) (old new : ServingSide) → OneIsMade made old new → List Happening
happenings_of_one None old new h = []
happenings_of_one (Some m) old new h = happenings_of_change m.change m.is_made old new h

-- ---- turns of the loop

-- one, and one after another
abbrev pub happenings_in : (port : ℕ) (old : ServingSide) (t : ServingTurn) (new : ServingSide) → IsServingTurn port old t new → List Happening
happenings_in port old t new h = happenings_of_hearing port t.reading old t.is_whole h.mid h.hears ++ happenings_of_one t.made h.mid new h.made

abbrev pub happenings_of : (port : ℕ) (old : ServingSide) (turns : List ServingTurn) (new : ServingSide) → AreTurns port old turns new → List Happening
happenings_of port old [] new h = []
happenings_of port old (t ∷ rest) new h = happenings_in port old t h.0 h.1.0 ++ happenings_of port h.0 rest new h.1.1
