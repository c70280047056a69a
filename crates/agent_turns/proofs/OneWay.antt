-- OneWay: from the same words and the same beginning the same follows.
use Rattle.std.proofs.Common.{◌≡◌, ◌∙◌, ℕ, zero, ◌-◌, Bool, true, false, List, [], ◌∷◌, ◌++◌, Option, Some, None, Result, Ok, Err, ap, ap₂, sym, subst, inl, inr}
use Rattle.agent_standing.specs.{Agent.Agent, Changed.AgentIsChanged, Shorts.all_said, Standings.standings_after, Turns.AgentTurn, Turns.beginnings_after, declared.standing.EntryStanding.EntryStanding}
use Rattle.agent_standing.specs.Turns as turns
use Rattle.vault_asking.proofs.Once.{turn_once}
use Rattle.vault_asking.specs.{Sending.Lanes, Told.event_as, Told.said_to, declared.told.Said.Said}
use Rattle.base_clock.specs.declared.reading.Reading.{Reading}
use Rattle.vault_inventory.specs.Inventories.{Inventory}
use Rattle.vault_lanes.specs.declared.lanes.Answered.{Answered}
use Rattle.watch_machine.specs.{declared.command.WatchCommand.WatchCommand, declared.command.WatchOutput.WatchOutput, declared.command.WatchRequest.WatchRequest, declared.event.WatchEvent.WatchEvent, declared.fault.WatchFault.WatchFault}
use Rattle.watch_machine.specs.{declared.fault.WatchFault.TheVariants.OutOfMemory, declared.lanes.Out.Out, History.Turn, State.WatchState, Step.TurnMayWantMemory}
use Rattle.watch_machine.specs.declared.command.WatchCommand.TheVariants.{Go, Taken}
use Rattle.watch_machine.specs.declared.event.WatchEvent.TheVariants as events
use Rattle.agent_turns.specs.{Laws.OneWayLaw, Stages.AnswerIsTaken, Stages.AnswersAreTaken, declared.change.AgentChange.AgentChange}
use Rattle.agent_turns.specs.Changes.{AgentIsTurned, ChangeIsMade, InventoryIsServed, MadeChange, OneIsMade, ServesInventory}
use Rattle.agent_turns.specs.Held.{Held, ServingSide, serving_side}
use Rattle.agent_turns.specs.Words.{AllFollow, HandsBy, SaysBy, TurnFollowsWords, Words, WordsHandIn}
use Rattle.agent_turns.specs.declared.change.AgentChange.TheVariants.{Need, Begin, Known, Serve, Kept}

-- ---- the agent

same_agent : (a b : Agent) → b.machine ≡ a.machine → b.inventory ≡ a.inventory → b.standings ≡ a.standings → b.beginnings ≡ a.beginnings → b ≡ a
same_agent a b machine inventory standings beginnings =
    ap₂ (λ (m : WatchState) (s : Inventory). record { machine = m; inventory = s; standings = b.standings; beginnings = b.beginnings }) machine inventory
    ∙ ap₂ (λ (x : List EntryStanding) (n : ℕ). record { machine = a.machine; inventory = a.inventory; standings = x; beginnings = n }) standings beginnings

-- what the machine takes
taken_same : (old a b : Agent) (event : WatchEvent) (x y : WatchOutput) → turns.EventIsTaken old event x a → turns.EventIsTaken old event y b → (y ≡ x) × (b ≡ a)
taken_same old a b event x y one two =
    let machine = turn_once old.machine a.machine b.machine event x y one.machine two.machine in (
      machine.0,
      same_agent a b machine.1 (two.inventory ∙ sym one.inventory) (two.standings ∙ ap (λ m. standings_after m event old.standings) machine.1 ∙ sym one.standings)
          (two.beginnings ∙ ap (λ (o : WatchOutput). beginnings_after o.notes.began old.beginnings) machine.0 ∙ sym one.beginnings),
    )

-- an event that wants no memory is taken, or it is refused
pub not_both : (s : WatchState) (event : WatchEvent) (x : WatchOutput) (new : WatchState) (fault : WatchFault) → (TurnMayWantMemory event → ⊥) → Turn s event (Ok x) new → Turn s event (Err fault) s → ⊥
not_both s event x new OutOfMemory wants one two = wants two.1.0
not_both s event x new _ wants one two = let e = sym one.0 ∙ two.0 in absurd cc

turned_same : (old a b : Agent) (event : WatchEvent) (x y : Result WatchOutput WatchFault) → (TurnMayWantMemory event → ⊥) → AgentTurn old event x a → AgentTurn old event y b → b ≡ a
turned_same old a b event (Ok x) (Ok y) wants one two = (taken_same old a b event x y one two).1
turned_same old a b event (Ok x) (Err f) wants one two = absurd (not_both old.machine event x a.machine f wants one.machine two.0)
turned_same old a b event (Err f) (Ok y) wants one two = absurd (not_both old.machine event y b.machine f wants two.machine one.0)
turned_same old a b event (Err f) (Err g) wants one two = two.1 ∙ sym one.1

-- ---- answers

one_answer : (x : Answered) (old a b : Agent) → AnswerIsTaken x old a → AnswerIsTaken x old b → b ≡ a
one_answer x old a b one two =
    let found : Some two.request ≡ Some one.request = sym two.is_out ∙ one.is_out in
    let request : two.request ≡ one.request = cc in
    let said : two.said ≡ one.said = two.said_is ∙ ap (λ (r : Out). said_to old.inventory r.operation x.index x.answer) request ∙ sym one.said_is in
    let event : event_as two.request.operation x.index two.said.reply two.said.terms ≡ event_as one.request.operation x.index one.said.reply one.said.terms =
    ap₂ (λ (r : Out) (s : Said). event_as r.operation x.index s.reply s.terms) request said in
    (taken_same old a b (event_as one.request.operation x.index one.said.reply one.said.terms) one.output two.output one.turn
    (subst (λ (e : WatchEvent). turns.EventIsTaken old e two.output b) event two.turn)).1

answers_same : (xs : List Answered) (old a b : Agent) → AnswersAreTaken xs old a → AnswersAreTaken xs old b → b ≡ a
answers_same [] old a b one two = two ∙ sym one
answers_same (x ∷ xs) old a b one two =
    let mid = one_answer x old one.0 two.0 one.1.0 two.1.0 in
    answers_same xs one.0 a b one.1.1 (subst (λ (m : Agent). AnswersAreTaken xs m b) mid two.1.1)

-- ---- the time

requests_of : WatchCommand → List WatchRequest
requests_of (Go requests until) = requests
requests_of Taken = []

until_of : WatchCommand → ℕ
until_of (Go requests until) = until
until_of Taken = zero

says_same : (is_said : Bool) (mid other a b : Agent) → other ≡ mid → SaysBy is_said mid a → SaysBy is_said other b → b ≡ a
says_same true mid other a b same one two = two ∙ ap all_said same ∙ sym one
says_same false mid other a b same one two = two ∙ same ∙ sym one

hands_same : (r : Reading) (came : List Answered) (is_said : Bool) (old a b : Held) (sent out : List WatchRequest) → WordsHandIn r came is_said old sent a → WordsHandIn r came is_said old out b → (out ≡ sent) × (b ≡ a)
unfolding requests_of until_of
hands_same r came is_said old a b sent out one two =
    let told = answers_same (old.pending ++ came) old.agent one.told two.told one.taken two.taken in
    let turned = taken_same one.told one.mid two.mid (events.Clock r.wall r.elapsed) (record { command = Go one.commanded one.until; notes = one.notes }) (record { command = Go two.commanded two.until; notes = two.notes })
    one.turn (subst (λ (x : Agent). turns.EventIsTaken x (events.Clock r.wall r.elapsed) (record { command = Go two.commanded two.until; notes = two.notes }) two.mid) told two.turn) in
    let commanded : two.commanded ≡ one.commanded = ap (λ (o : WatchOutput). requests_of o.command) turned.0 in
    let until : two.until ≡ one.until = ap (λ (o : WatchOutput). until_of o.command) turned.0 in
    let agent = says_same is_said one.mid two.mid a.agent b.agent turned.1 one.said two.said in
    let at : two.until - two.mid.machine.clocks.phase ≡ one.until - one.mid.machine.clocks.phase = ap₂ (λ (n : ℕ) (m : Agent). n - m.machine.clocks.phase) until turned.1 in (
      two.sent_is ∙ ap (λ rs. old.unsent ++ rs) commanded ∙ sym one.sent_is,
      two.held ∙ ap₂ (λ (x : Agent) (n : ℕ). record { agent = x; pending = []; unsent = []; asked = r; until = n }) agent at ∙ sym one.held,
    )

hands_by_same : (reading : Option Reading) (came : List Answered) (is_said : Bool) (old a b : Held) (sent out : List WatchRequest) → HandsBy reading came is_said old sent a → HandsBy reading came is_said old out b → (out ≡ sent) × (b ≡ a)
hands_by_same None came is_said old a b sent out one two = (two.0 ∙ sym one.0, two.1 ∙ sym one.1)
hands_by_same (Some r) came is_said old a b sent out one two = hands_same r came is_said old a b sent out one two

-- ---- changes, whatever is on the lanes

changed_same : (old : Agent) (s : Inventory) (a b : Agent) → AgentIsChanged old s a → AgentIsChanged old s b → b ≡ a
changed_same old s a b one two = same_agent a b (two.machine.state ∙ sym one.machine.state) (two.inventory ∙ sym one.inventory) (two.standings ∙ sym one.standings) (two.beginnings ∙ sym one.beginnings)

event_same : (event : WatchEvent) (h : Held) (l k : Lanes) (a b : ServingSide) → (TurnMayWantMemory event → ⊥) → AgentIsTurned event (serving_side h l) a → AgentIsTurned event (serving_side h k) b → b.held ≡ a.held
event_same event h l k a b wants one two =
    let agent = turned_same h.agent a.held.agent b.held.agent event one.result two.result wants one.turn two.turn in
    ap (λ (x : ServingSide). x.held) two.rest ∙ ap (λ (x : Agent). record h { agent = x }) agent ∙ sym (ap (λ (x : ServingSide). x.held) one.rest)

served_same : (s : Inventory) (h : Held) (l k : Lanes) (a b : ServingSide) → InventoryIsServed s (serving_side h l) a → InventoryIsServed s (serving_side h k) b → b.held ≡ a.held
served_same s h l k a b one two =
    let agent = changed_same h.agent s a.held.agent b.held.agent one.agent two.agent in
    two.held ∙ ap (λ (x : Agent). record h { agent = x }) agent ∙ sym one.held

serving_same : (s : Inventory) (h : Held) (l k : Lanes) (a b : ServingSide) → ServesInventory s (serving_side h l) a → ServesInventory s (serving_side h k) b → b.held ≡ a.held
serving_same s h l k a b (inl one) (inl two) = ap (λ (x : ServingSide). x.held) two.1 ∙ sym (ap (λ (x : ServingSide). x.held) one.1)
serving_same s h l k a b (inl one) (inr two) = absurd (two.0 one.0)
serving_same s h l k a b (inr one) (inl two) = absurd (one.0 two.0)
serving_same s h l k a b (inr one) (inr two) = served_same s h l k a b one.1 two.1

change_same : (c : AgentChange) (is_made : Bool) (h : Held) (l k : Lanes) (a b : ServingSide) → ChangeIsMade c is_made (serving_side h l) a → ChangeIsMade c is_made (serving_side h k) b → b.held ≡ a.held
change_same c false h l k a b one two = ap (λ (x : ServingSide). x.held) two.1 ∙ sym (ap (λ (x : ServingSide). x.held) one.1)
change_same (Need i until) true h l k a b one two = event_same (events.Need i until) h l k a b (λ wants. wants) one two
change_same Begin true h l k a b one two = event_same events.Begin h l k a b (λ wants. wants) one two
change_same (Known i end renewable) true h l k a b one two = event_same (events.Known i end renewable) h l k a b (λ wants. wants) one two
change_same (Serve s) true h l k a b one two = serving_same s h l k a b one two
change_same Kept true h l k a b one two = ap (λ (x : ServingSide). x.held) two ∙ sym (ap (λ (x : ServingSide). x.held) one)

one_same : (made : Option MadeChange) (h : Held) (l k : Lanes) (a b : ServingSide) → OneIsMade made (serving_side h l) a → OneIsMade made (serving_side h k) b → b.held ≡ a.held
one_same None h l k a b one two = ap (λ (x : ServingSide). x.held) two ∙ sym (ap (λ (x : ServingSide). x.held) one)
one_same (Some m) h l k a b one two = change_same m.change m.is_made h l k a b one two

-- ---- turns

follows_same : (w : Words) (old a b : Held) (sent out : List WatchRequest) → TurnFollowsWords w old sent a → TurnFollowsWords w old out b → (out ≡ sent) × (b ≡ a)
follows_same w old a b sent out one two =
    let hands = hands_by_same w.reading w.came w.is_said old one.mid two.mid sent out one.hands two.hands in
    (hands.0, one_same w.made one.mid one.before two.before (serving_side a one.after) (serving_side b two.after) one.made (subst (λ (x : Held). OneIsMade w.made (serving_side x two.before) (serving_side b two.after)) hands.1 two.made))

pub one_way_law : OneWayLaw
one_way_law [] old a b sent out one two = (two.0 ∙ sym one.0, two.1 ∙ sym one.1)
one_way_law (w ∷ rest) old a b [] out one two = absurd one
one_way_law (w ∷ rest) old a b (s ∷ sent) [] one two = absurd two
one_way_law (w ∷ rest) old a b (s ∷ sent) (o ∷ out) one two =
    let here = follows_same w old one.0 two.0 s o one.1.0 two.1.0 in
    let later = one_way_law rest one.0 a b sent out one.1.1 (subst (λ (m : Held). AllFollow rest m out b) here.1 two.1.1) in
    (ap₂ (λ x xs. x ∷ xs) here.0 later.0, later.1)
