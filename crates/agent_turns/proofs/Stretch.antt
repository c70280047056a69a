-- Stretch: the law that what happens to the Watch in turns leads from the one state of it to the other.
use Rattle.std.proofs.Common.{◌≡◌, ◌∙◌, ℕ, Bool, true, false, List, [], ◌∷◌, ◌++◌, Option, Result, Ok, Err, Some, None, ap, refl, sym, subst, inl, inr}
use Rattle.agent_standing.specs.{Agent.Agent, Turns.AgentTurn}
use Rattle.vault_asking.specs.{Told.event_as, Told.event_of_answer, declared.told.Said.Said}
use Rattle.base_clock.specs.declared.reading.Reading.{Reading}
use Rattle.vault_inventory.specs.Inventories.{Inventory}
use Rattle.vault_lanes.specs.declared.lanes.Answered.{Answered}
use Rattle.watch_machine.specs.{declared.command.WatchCommand.TheVariants.Go, declared.command.WatchOutput.WatchOutput, declared.event.WatchEvent.WatchEvent, declared.fault.WatchFault.WatchFault, State.WatchState}
use Rattle.watch_machine.specs.History.{AllHappen, Happening, Turn, state_after, state_after_all}
use Rattle.watch_machine.specs.declared.event.WatchEvent.TheVariants as events
use Rattle.agent_turns.specs.{Held.Held, Held.ServingSide, Laws.Lead, Laws.StretchLaw, Turns.IsServingTurn, Turns.TurnHears, declared.change.AgentChange.AgentChange}
use Rattle.agent_turns.specs.Changes.{ChangeIsMade, MadeChange, OneIsMade, ServesInventory}
use Rattle.agent_turns.specs.Stages.{AnswerIsTaken, AnswersAreTaken, AnswersCome, Commands, HandsInAnswers, LeftOverGoesFirst, Listed, OnHeld, SendsRequests, TakesAnswers, TakesReadings, TakesUp, Then, nothing, one_and_then}
use Rattle.agent_turns.specs.Happenings.{happening_of_answer, handed, happenings_in, happenings_of, happenings_of_answers, happenings_of_change, happenings_of_hearing, happenings_of_one, happenings_of_readings, happenings_of_serving, happenings_of_stages, happenings_of_taking}
use Rattle.agent_turns.specs.declared.change.AgentChange.TheVariants.{Need, Begin, Known, Serve, Kept}
use Rattle.agent_turns.specs.Turns as turns
use Rattle.agent_turns.proofs.InStep.{said_machine}

pub nowhere : (old new : WatchState) → new ≡ old → Lead old [] new
nowhere old new same = (tt, sym same)

by_turn : (old new : Agent) (event : WatchEvent) (result : Result WatchOutput WatchFault) → Turn old.machine event result new.machine → Lead old.machine (handed event result new ∷ []) new.machine
by_turn old new event result turn = ((turn, tt), refl)

happen_then : (old : WatchState) (first more : List Happening) → AllHappen old first → AllHappen (state_after_all old first) more → AllHappen old (first ++ more) × (state_after_all old (first ++ more) ≡ state_after_all (state_after_all old first) more)
happen_then old [] more h k = (k, refl)
happen_then old (one ∷ first) more h k = (let rest = happen_then (state_after one) first more h.1 k in ((h.0, rest.0), rest.1))

pub and_then : (old mid new : WatchState) (first more : List Happening) → Lead old first mid → Lead mid more new → Lead old (first ++ more) new
and_then old mid new first more h k =
    let all = happen_then old first more h.0 (subst (λ s. AllHappen s more) (sym h.1) k.0) in
    (all.0, all.1 ∙ ap (λ s. state_after_all s more) h.1 ∙ k.1)

-- ---- by stage

-- what happens in a stage leads from the Watch before it to that after it
abbrev Leads : (stage : ServingSide → Bool → ServingSide → Type 0) → Listed Happening stage → Type 0
Leads stage happenings = (old new : ServingSide) (is_whole : Bool) (h : stage old is_whole new) → Lead old.held.agent.machine (happenings old is_whole new h) new.held.agent.machine

by_then : (first second : ServingSide → Bool → ServingSide → Type 0) (one : Listed Happening first) (more : Listed Happening second) → Leads first one → Leads second more → Leads (Then first second) (one_and_then first second one more)
by_then first second one more a b old new is_whole (inl h) =
    and_then old.held.agent.machine h.0.held.agent.machine new.held.agent.machine (one old true h.0 h.1.0) (more h.0 is_whole new h.1.1) (a old h.0 true h.1.0) (b h.0 new is_whole h.1.1)
by_then first second one more a b old new is_whole (inr h) = a old new false h.0

same_agent : (old new : ServingSide) (h : Held) → new.held ≡ h → h.agent ≡ old.held.agent → Lead old.held.agent.machine [] new.held.agent.machine
same_agent old new h is same = nowhere old.held.agent.machine new.held.agent.machine (ap (λ (x : Held). x.agent.machine) is ∙ ap (λ (a : Agent). a.machine) same)

by_sends : (port : ℕ) → Leads (SendsRequests port) (nothing (SendsRequests port))
by_sends port old new true h = same_agent old new (record old.held { unsent = new.held.unsent }) h.0.held refl
by_sends port old new false h = same_agent old new (record old.held { unsent = h.0.held.unsent }) (h.1.1.held ∙ h.1.0.held) refl

by_answer : (a : Answered) (old new : Agent) (h : AnswerIsTaken a old new) → Lead old.machine (happening_of_answer a old new h ∷ []) new.machine
by_answer a old new h =
    by_turn old new (event_of_answer old.inventory h.request.operation a) (Ok h.output) (subst (λ (said : Said). Turn old.machine (event_as h.request.operation a.index said.reply said.terms) (Ok h.output) new.machine) h.said_is h.turn.machine)

by_answers : (answers : List Answered) (old new : Agent) (h : AnswersAreTaken answers old new) → Lead old.machine (happenings_of_answers answers old new h) new.machine
by_answers [] old new h = nowhere old.machine new.machine (ap (λ (a : Agent). a.machine) h)
by_answers (a ∷ rest) old new h =
    and_then old.machine h.0.machine new.machine (happening_of_answer a old h.0 h.1.0 ∷ []) (happenings_of_answers rest h.0 new h.1.1) (by_answer a old h.0 h.1.0) (by_answers rest h.0 new h.1.1)

by_takes : Leads (OnHeld TakesAnswers) happenings_of_taking
by_takes old new true h = by_answers h.0.0.taken old.held.agent new.held.agent h.0.0.agent
by_takes old new false h = by_answers h.0.0.taken old.held.agent new.held.agent h.0.0.agent

by_comes : (now : ℕ) → Leads (AnswersCome now) (nothing (AnswersCome now))
by_comes now old new true h = same_agent old new (record old.held { pending = new.held.pending }) h.held refl
by_comes now old new false h = nowhere old.held.agent.machine new.held.agent.machine (ap (λ (s : ServingSide). s.held.agent.machine) h)

by_reads : (r : Reading) → Leads (OnHeld (TakesReadings r)) (happenings_of_readings r)
by_reads r old new true h =
    let output : WatchOutput = record { command = Go new.held.unsent h.0.until; notes = h.0.notes } in
    and_then old.held.agent.machine h.0.mid.machine new.held.agent.machine (handed (events.Clock r.wall r.elapsed) (Ok output) h.0.mid ∷ []) [] (by_turn old.held.agent h.0.mid (events.Clock r.wall r.elapsed) (Ok output) h.0.turn.machine)
    (nowhere h.0.mid.machine new.held.agent.machine (said_machine h.0.mid new.held.agent h.0.said))
by_reads r old new false h = nowhere old.held.agent.machine new.held.agent.machine (ap (λ (x : Held). x.agent.machine) h.0)

by_goes : (port : ℕ) (r : Reading) → Leads (LeftOverGoesFirst port r) (happenings_of_stages port r)
by_goes port r =
    let reads = one_and_then (OnHeld (TakesReadings r)) (SendsRequests port) (happenings_of_readings r) (nothing (SendsRequests port)) in
    let hands = one_and_then (OnHeld TakesAnswers) (Commands port r) happenings_of_taking reads in
    let comes = one_and_then (AnswersCome r.elapsed) (HandsInAnswers port r) (nothing (AnswersCome r.elapsed)) hands in
    let left = one_and_then (OnHeld TakesAnswers) (TakesUp port r) happenings_of_taking comes in
    by_then (SendsRequests port) (Then (OnHeld TakesAnswers) (TakesUp port r)) (nothing (SendsRequests port)) left (by_sends port)
    (by_then (OnHeld TakesAnswers) (TakesUp port r) happenings_of_taking comes by_takes
    (by_then (AnswersCome r.elapsed) (HandsInAnswers port r) (nothing (AnswersCome r.elapsed)) hands (by_comes r.elapsed)
    (by_then (OnHeld TakesAnswers) (Commands port r) happenings_of_taking reads by_takes
    (by_then (OnHeld (TakesReadings r)) (SendsRequests port) (happenings_of_readings r) (nothing (SendsRequests port)) (by_reads r) (by_sends port)))))

pub by_hears : (port : ℕ) (reading : Option Reading) (old : ServingSide) (is_whole : Bool) (new : ServingSide) (h : TurnHears port reading old is_whole new) → Lead old.held.agent.machine (happenings_of_hearing port reading old is_whole new h) new.held.agent.machine
by_hears port None old is_whole new h = nowhere old.held.agent.machine new.held.agent.machine (ap (λ (s : ServingSide). s.held.agent.machine) h.1)
by_hears port (Some r) old is_whole new h = by_goes port r old new is_whole h

-- ---- by change

pub by_event : (event : WatchEvent) (old new : Agent) (result : Result WatchOutput WatchFault) → AgentTurn old event result new → Lead old.machine (handed event result new ∷ []) new.machine
by_event event old new (Ok output) turn = by_turn old new event (Ok output) turn.machine
by_event event old new (Err fault) turn = by_turn old new event (Err fault) (subst (λ (a : Agent). Turn old.machine event (Err fault) a.machine) (sym turn.1) turn.0)

by_serving : (s : Inventory) (old new : ServingSide) (h : ServesInventory s old new) → Lead old.held.agent.machine (happenings_of_serving s old new h) new.held.agent.machine
by_serving s old new (inl h) = nowhere old.held.agent.machine new.held.agent.machine (ap (λ (x : ServingSide). x.held.agent.machine) h.1)
by_serving s old new (inr h) = ((h.1.agent.machine, tt), refl)

pub by_change : (c : AgentChange) (is_made : Bool) (old new : ServingSide) (h : ChangeIsMade c is_made old new) → Lead old.held.agent.machine (happenings_of_change c is_made old new h) new.held.agent.machine
by_change c false old new h = nowhere old.held.agent.machine new.held.agent.machine (ap (λ (s : ServingSide). s.held.agent.machine) h.1)
by_change (Need i until) true old new h = by_event (events.Need i until) old.held.agent new.held.agent h.result h.turn
by_change Begin true old new h = by_event events.Begin old.held.agent new.held.agent h.result h.turn
by_change (Known i end renewable) true old new h = by_event (events.Known i end renewable) old.held.agent new.held.agent h.result h.turn
by_change (Serve s) true old new h = by_serving s old new h
by_change Kept true old new h = nowhere old.held.agent.machine new.held.agent.machine (ap (λ (s : ServingSide). s.held.agent.machine) h)

by_one_made : (made : Option MadeChange) (old new : ServingSide) (h : OneIsMade made old new) → Lead old.held.agent.machine (happenings_of_one made old new h) new.held.agent.machine
by_one_made None old new h = nowhere old.held.agent.machine new.held.agent.machine (ap (λ (s : ServingSide). s.held.agent.machine) h)
by_one_made (Some m) old new h = by_change m.change m.is_made old new h

-- ---- by turn

by_one : (port : ℕ) (old : ServingSide) (t : turns.ServingTurn) (new : ServingSide) (h : IsServingTurn port old t new) → Lead old.held.agent.machine (happenings_in port old t new h) new.held.agent.machine
by_one port old t new h =
    and_then old.held.agent.machine h.mid.held.agent.machine new.held.agent.machine (happenings_of_hearing port t.reading old t.is_whole h.mid h.hears) (happenings_of_one t.made h.mid new h.made)
    (by_hears port t.reading old t.is_whole h.mid h.hears) (by_one_made t.made h.mid new h.made)

pub stretch_law : StretchLaw
stretch_law port old new [] h = nowhere old.held.agent.machine new.held.agent.machine (ap (λ (s : ServingSide). s.held.agent.machine) h)
stretch_law port old new (t ∷ rest) h =
    and_then old.held.agent.machine h.0.held.agent.machine new.held.agent.machine (happenings_in port old t h.0 h.1.0) (happenings_of port h.0 rest new h.1.1) (by_one port old t h.0 h.1.0) (stretch_law port h.0 new rest h.1.1)
