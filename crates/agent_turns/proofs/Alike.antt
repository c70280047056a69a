-- Alike: agents that differ in credentials alone go the same way. For `secrets_change_no_turn`.
use Rattle.std.proofs.Common.{◌≡◌, ◌∙◌, ℕ, zero, ◌-◌, Bool, true, false, List, [], ◌∷◌, ◌++◌, Option, Some, None, Result, Ok, Err, ap, ap₂, length, map, refl, sym, subst, inl, inr}
use Rattle.std.specs.List.{range_with_len}
use Rattle.agent_standing.specs.{Agent.Agent, Shorts.all_said, Shorts.said_standings, Standings.standing_in, Standings.standings_after, declared.standing.EntryStanding.EntryStanding}
use Rattle.agent_standing.specs.Changed.{all_was, carried_standing, standing_of, was_of}
use Rattle.agent_standing.specs.Turns.{AgentTurn, beginnings_after, inventory_after}
use Rattle.agent_standing.specs.Changed as agents
use Rattle.agent_standing.specs.Turns as turns
use Rattle.agent_standing.proofs.WasOf.{former_by}
use Rattle.vault_asking.proofs.Once.{turn_once}
use Rattle.vault_asking.specs.{Handing.out_of, Sending.Lanes, Told.event_as, declared.told.Said.Said}
use Rattle.base_clock.specs.declared.reading.Reading.{Reading}
use Rattle.vault_inventory.specs.Inventories.{Inventory, inventory_with_need}
use Rattle.vault_lanes.specs.declared.lanes.Answered.{Answered}
use Rattle.plan_forest.specs.Forest.{Forest}
use Rattle.watch_machine.specs.{Change.changed, Change.former, declared.change.Was.Was, declared.command.WatchCommand.WatchCommand, declared.command.WatchOutput.WatchOutput, declared.command.WatchRequest.WatchRequest}
use Rattle.watch_machine.specs.{declared.event.WatchEvent.WatchEvent, declared.fault.WatchFault.WatchFault, declared.lanes.Out.Out, History.Turn, State.WatchState, Step.TurnMayWantMemory}
use Rattle.watch_machine.specs.declared.command.WatchCommand.TheVariants.{Go, Taken}
use Rattle.watch_machine.specs.declared.event.WatchEvent.TheVariants as events
use Rattle.agent_turns.specs.{Stages.AnswerIsTaken, Stages.AnswersAreTaken, declared.change.AgentChange.AgentChange}
use Rattle.agent_turns.specs.Alike.{AlikeLaw, AreAgentsAlike, AreHeldAlike, AreInventoriesAlike, AreWordsAlike, ChangedAlikeLaw, Content, KeepsInventory, OneKeepsInventory, ServedAlikeLaw, contents_at, contents_in, contents_taken}
use Rattle.agent_turns.specs.Changes.{AgentIsTurned, ChangeIsMade, MadeChange, OneIsMade}
use Rattle.agent_turns.specs.Held.{Held, ServingSide, serving_side}
use Rattle.agent_turns.specs.Words.{HandsBy, SaysBy, TurnFollowsWords, Words, WordsHandIn}
use Rattle.agent_turns.specs.declared.change.AgentChange.TheVariants.{Need, Begin, Known, Serve, Kept}
use Rattle.agent_turns.proofs.OneWay.{not_both}

-- ---- the agent

need_alike : (s t : Inventory) (i need : ℕ) → AreInventoriesAlike s t → AreInventoriesAlike (inventory_with_need s i need) (inventory_with_need t i need)
unfolding inventory_with_need
need_alike s t i need alike = ap (λ (x : Inventory). inventory_with_need x i need) alike

inventory_alike : (event : WatchEvent) (s t : Inventory) → AreInventoriesAlike s t → AreInventoriesAlike (inventory_after event s) (inventory_after event t)
inventory_alike (events.Need i until) s t alike = need_alike s t i _ alike
inventory_alike _ s t alike = alike

same_agents : (old other a b : Agent) → a ≡ old → b ≡ other → AreAgentsAlike old other → AreAgentsAlike a b
same_agents old other a b one two alike = subst (λ (x : Agent). AreAgentsAlike x b) (sym one) (subst (λ (y : Agent). AreAgentsAlike old y) (sym two) alike)

-- what the machine takes
taken_alike : (old other a b : Agent) (event : WatchEvent) (x y : WatchOutput) → AreAgentsAlike old other → turns.EventIsTaken old event x a → turns.EventIsTaken other event y b → (y ≡ x) × AreAgentsAlike a b
taken_alike old other a b event x y alike one two =
    let machine = turn_once old.machine a.machine b.machine event x y one.machine (subst (λ (m : WatchState). Turn m event (Ok y) b.machine) alike.machine two.machine) in
    let inventory = inventory_alike event old.inventory other.inventory alike.inventory in (
      machine.0,
      record {
        machine = machine.1;
        inventory = subst (λ (t : Inventory). AreInventoriesAlike a.inventory t) (sym two.inventory) (subst (λ (s : Inventory). AreInventoriesAlike s (inventory_after event other.inventory)) (sym one.inventory) inventory);
        standings = two.standings ∙ ap₂ (λ (m : WatchState) (xs : List EntryStanding). standings_after m event xs) machine.1 alike.standings ∙ sym one.standings;
        beginnings = two.beginnings ∙ ap₂ (λ (o : WatchOutput) (n : ℕ). beginnings_after o.notes.began n) machine.0 alike.beginnings ∙ sym one.beginnings;
      },
    )

turned_alike : (old other a b : Agent) (event : WatchEvent) (x y : Result WatchOutput WatchFault) → (TurnMayWantMemory event → ⊥) → AreAgentsAlike old other → AgentTurn old event x a → AgentTurn other event y b → AreAgentsAlike a b
turned_alike old other a b event (Ok x) (Ok y) wants alike one two = (taken_alike old other a b event x y alike one two).1
turned_alike old other a b event (Ok x) (Err f) wants alike one two = absurd (not_both old.machine event x a.machine f wants one.machine (subst (λ (m : WatchState). Turn m event (Err f) m) alike.machine two.0))
turned_alike old other a b event (Err f) (Ok y) wants alike one two = absurd (not_both old.machine event y b.machine f wants (subst (λ (m : WatchState). Turn m event (Ok y) b.machine) alike.machine two.machine) one.0)
turned_alike old other a b event (Err f) (Err g) wants alike one two = same_agents old other a b one.1 two.1 alike

-- ---- answers

one_alike : (x y : Answered) (old other a b : Agent) → AreAgentsAlike old other → (one : AnswerIsTaken x old a) (two : AnswerIsTaken y other b) → y.index ≡ x.index → two.said ≡ one.said → AreAgentsAlike a b
one_alike x y old other a b alike one two index said =
    let found : Some two.request ≡ Some one.request = sym two.is_out ∙ ap₂ (λ (m : WatchState) (i : ℕ). out_of m.out i) alike.machine index ∙ one.is_out in
    let request : two.request ≡ one.request = cc in
    let event : event_as two.request.operation y.index two.said.reply two.said.terms ≡ event_as one.request.operation x.index one.said.reply one.said.terms =
    ap₂ (λ (r : Out) (s : Said). event_as r.operation y.index s.reply s.terms) request said ∙ ap (λ i. event_as one.request.operation i one.said.reply one.said.terms) index in
    (taken_alike old other a b (event_as one.request.operation x.index one.said.reply one.said.terms) one.output two.output alike one.turn
    (subst (λ (e : WatchEvent). turns.EventIsTaken other e two.output b) event two.turn)).1

abbrev head_or : {X : Type 0} → X → List X → X
head_or d [] = d
head_or d (x ∷ xs) = x

abbrev tail_of : {X : Type 0} → List X → List X
tail_of [] = []
tail_of (x ∷ xs) = xs

answers_alike : (xs ys : List Answered) (old other a b : Agent) → AreAgentsAlike old other → (one : AnswersAreTaken xs old a) (two : AnswersAreTaken ys other b) → contents_taken ys other b two ≡ contents_taken xs old a one → AreAgentsAlike a b
answers_alike [] [] old other a b alike one two same = same_agents old other a b one two alike
answers_alike (x ∷ xs) (y ∷ ys) old other a b alike one two same =
    let first : Content = record { index = x.index; said = one.1.0.said } in
    let head = ap (head_or first) same in
    let mid = one_alike x y old other one.0 two.0 alike one.1.0 two.1.0 (ap (λ (c : Content). c.index) head) (ap (λ (c : Content). c.said) head) in
    answers_alike xs ys one.0 two.0 a b mid one.1.1 two.1.1 (ap tail_of same)
answers_alike _ _ old other a b alike one two same = absurd cc

-- ---- the time

abbrev requests_by : WatchCommand → List WatchRequest
requests_by (Go requests until) = requests
requests_by Taken = []

abbrev until_by : WatchCommand → ℕ
until_by (Go requests until) = until
until_by Taken = zero

abbrev requests_in : WatchOutput → List WatchRequest
requests_in o = requests_by o.command

abbrev until_in : WatchOutput → ℕ
until_in o = until_by o.command

says_alike : (is_said : Bool) (mid other a b : Agent) → AreAgentsAlike mid other → SaysBy is_said mid a → SaysBy is_said other b → AreAgentsAlike a b
says_alike true mid other a b alike one two =
    same_agents (all_said mid) (all_said other) a b one two
    (record { machine = alike.machine; inventory = alike.inventory; standings = ap (λ (s : Inventory). said_standings other.machine s.terms other.standings) alike.inventory ∙ ap₂ (λ (m : WatchState) (xs : List EntryStanding). said_standings m mid.inventory.terms xs) alike.machine alike.standings; beginnings = alike.beginnings })
says_alike false mid other a b alike one two = same_agents mid other a b one two alike

hands_alike :
    (r : Reading) (came more : List Answered) (is_said : Bool) (h k a b : Held) (sent out : List WatchRequest) → AreHeldAlike h k → (one : WordsHandIn r came is_said h sent a) (two : WordsHandIn r more is_said k out b) →
    contents_taken (k.pending ++ more) k.agent two.told two.taken ≡ contents_taken (h.pending ++ came) h.agent one.told one.taken → (out ≡ sent) × AreHeldAlike a b
hands_alike r came more is_said h k a b sent out alike one two same =
    let told = answers_alike (h.pending ++ came) (k.pending ++ more) h.agent k.agent one.told two.told alike.agent one.taken two.taken same in
    let turned = taken_alike one.told two.told one.mid two.mid (events.Clock r.wall r.elapsed) (record { command = Go one.commanded one.until; notes = one.notes }) (record { command = Go two.commanded two.until; notes = two.notes }) told one.turn two.turn in
    let commanded : two.commanded ≡ one.commanded = ap requests_in turned.0 in
    let until : two.until ≡ one.until = ap until_in turned.0 in
    let at : two.until - two.mid.machine.clocks.phase ≡ one.until - one.mid.machine.clocks.phase = ap₂ (λ (n : ℕ) (m : WatchState). n - m.clocks.phase) until turned.1.machine in (
      two.sent_is ∙ ap₂ (λ (xs : List WatchRequest) (ys : List WatchRequest). xs ++ ys) alike.unsent commanded ∙ sym one.sent_is,
      record {
        agent = says_alike is_said one.mid two.mid a.agent b.agent turned.1 one.said two.said;
        unsent = ap (λ (x : Held). x.unsent) two.held ∙ sym (ap (λ (x : Held). x.unsent) one.held);
        asked = ap (λ (x : Held). x.asked) two.held ∙ sym (ap (λ (x : Held). x.asked) one.held);
        until = ap (λ (x : Held). x.until) two.held ∙ at ∙ sym (ap (λ (x : Held). x.until) one.held);
      },
    )

same_held : (h k a b : Held) → a ≡ h → b ≡ k → AreHeldAlike h k → AreHeldAlike a b
same_held h k a b one two alike = subst (λ (x : Held). AreHeldAlike x b) (sym one) (subst (λ (y : Held). AreHeldAlike h y) (sym two) alike)

-- the words of the second turn stand as those of the first, but for the answers
abbrev HandsAlike : (w : Words) (reading : Option Reading) (is_said : Bool) (v : Words) (h k a b : Held) (sent out : List WatchRequest) → Type 0
HandsAlike w reading is_said v h k a b sent out =
    (one : HandsBy reading w.came is_said h sent a) (two : HandsBy reading v.came is_said k out b) → contents_at reading v.came is_said k out b two ≡ contents_at reading w.came is_said h sent a one → (out ≡ sent) × AreHeldAlike a b

hands_by_alike : (w v : Words) (reading : Option Reading) (is_said : Bool) (h k a b : Held) (sent out : List WatchRequest) → AreHeldAlike h k → HandsAlike w reading is_said v h k a b sent out
hands_by_alike w v None is_said h k a b sent out alike one two same = (two.0 ∙ sym one.0, same_held h k a b one.1 two.1 alike)
hands_by_alike w v (Some r) is_said h k a b sent out alike one two same = hands_alike r w.came v.came is_said h k a b sent out alike one two same

-- ---- changes

event_alike : (event : WatchEvent) (h k : Held) (l m : Lanes) (a b : ServingSide) → (TurnMayWantMemory event → ⊥) → AreHeldAlike h k → AgentIsTurned event (serving_side h l) a → AgentIsTurned event (serving_side k m) b → AreHeldAlike a.held b.held
event_alike event h k l m a b wants alike one two = record {
  agent = turned_alike h.agent k.agent a.held.agent b.held.agent event one.result two.result wants alike.agent one.turn two.turn;
  unsent = ap (λ (x : ServingSide). x.held.unsent) two.rest ∙ alike.unsent ∙ sym (ap (λ (x : ServingSide). x.held.unsent) one.rest);
  asked = ap (λ (x : ServingSide). x.held.asked) two.rest ∙ alike.asked ∙ sym (ap (λ (x : ServingSide). x.held.asked) one.rest);
  until = ap (λ (x : ServingSide). x.held.until) two.rest ∙ alike.until ∙ sym (ap (λ (x : ServingSide). x.held.until) one.rest);
}

change_alike : (c : AgentChange) (is_made : Bool) (h k : Held) (l m : Lanes) (a b : ServingSide) → KeepsInventory c → AreHeldAlike h k → ChangeIsMade c is_made (serving_side h l) a → ChangeIsMade c is_made (serving_side k m) b → AreHeldAlike a.held b.held
change_alike c false h k l m a b keep alike one two = same_held h k a.held b.held (ap (λ (x : ServingSide). x.held) one.1) (ap (λ (x : ServingSide). x.held) two.1) alike
change_alike (Need i until) true h k l m a b keep alike one two = event_alike (events.Need i until) h k l m a b (λ wants. wants) alike one two
change_alike Begin true h k l m a b keep alike one two = event_alike events.Begin h k l m a b (λ wants. wants) alike one two
change_alike (Known i end renewable) true h k l m a b keep alike one two = event_alike (events.Known i end renewable) h k l m a b (λ wants. wants) alike one two
change_alike (Serve s) true h k l m a b keep alike one two = absurd keep
change_alike Kept true h k l m a b keep alike one two = same_held h k a.held b.held (ap (λ (x : ServingSide). x.held) one) (ap (λ (x : ServingSide). x.held) two) alike

made_alike : (made : Option MadeChange) (h k : Held) (l m : Lanes) (a b : ServingSide) → OneKeepsInventory made → AreHeldAlike h k → OneIsMade made (serving_side h l) a → OneIsMade made (serving_side k m) b → AreHeldAlike a.held b.held
made_alike None h k l m a b keep alike one two = same_held h k a.held b.held (ap (λ (x : ServingSide). x.held) one) (ap (λ (x : ServingSide). x.held) two) alike
made_alike (Some c) h k l m a b keep alike one two = change_alike c.change c.is_made h k l m a b keep alike one two

-- ---- turns

follows_alike : (w v : Words) (h k a b : Held) (sent out : List WatchRequest) → AreHeldAlike h k → AreWordsAlike w v → (one : TurnFollowsWords w h sent a) (two : TurnFollowsWords v k out b) → contents_in v k out b two ≡ contents_in w h sent a one → (out ≡ sent) × AreHeldAlike a b
follows_alike w v h k a b sent out alike words one two same =
    let hands = by v.reading words.reading v.is_said words.is_said two.hands same in
    (hands.0, made_alike w.made one.mid two.mid one.before two.before (serving_side a one.after) (serving_side b two.after) words.keep hands.1 one.made (subst (λ made. OneIsMade made (serving_side two.mid two.before) (serving_side b two.after)) words.made two.made)) where
      by : (reading : Option Reading) → reading ≡ w.reading → (is_said : Bool) → is_said ≡ w.is_said → (hands : HandsBy reading v.came is_said k out two.mid) →
          contents_at reading v.came is_said k out two.mid hands ≡ contents_at w.reading w.came w.is_said h sent one.mid one.hands → (out ≡ sent) × AreHeldAlike one.mid two.mid
      by reading read is_said said =
          subst (λ (x : Option Reading). (hands : HandsBy x v.came is_said k out two.mid) → contents_at x v.came is_said k out two.mid hands ≡ contents_at w.reading w.came w.is_said h sent one.mid one.hands → (out ≡ sent) × AreHeldAlike one.mid two.mid) (sym read)
          (subst (λ (y : Bool). (hands : HandsBy w.reading v.came y k out two.mid) → contents_at w.reading v.came y k out two.mid hands ≡ contents_at w.reading w.came w.is_said h sent one.mid one.hands → (out ≡ sent) × AreHeldAlike one.mid two.mid) (sym said)
          (λ hands there. hands_by_alike w v w.reading w.is_said h k one.mid two.mid sent out alike one.hands hands there))

pub alike_law : AlikeLaw
alike_law [] [] h k new last sent out one two alike words same = (two.0 ∙ sym one.0, same_held h k new last one.1 two.1 alike)
alike_law (w ∷ ws) (v ∷ vs) h k new last [] out one two alike words same = absurd one
alike_law (w ∷ ws) (v ∷ vs) h k new last (s ∷ sent) [] one two alike words same = absurd two
alike_law (w ∷ ws) (v ∷ vs) h k new last (s ∷ sent) (o ∷ out) one two alike words same =
    let here = follows_alike w v h k one.0 two.0 s o alike words.0 one.1.0 two.1.0 (ap (head_or []) same) in
    let later = alike_law ws vs one.0 two.0 new last sent out one.1.1 two.1.1 here.1 words.1 (ap tail_of same) in
    (ap₂ (λ x xs. x ∷ xs) here.0 later.0, later.1)
alike_law _ _ h k new last sent out one two alike words same = absurd words

-- ---- another inventory

-- what is said of an entry is what was said of it where it was
abbrev by_was : Agent → Was → EntryStanding
by_was a w = standing_of a (former w)

carried_by : (a : Agent) (s : Inventory) (xs : List ℕ) → map (carried_standing a s) xs ≡ map (by_was a) (map (was_of a.inventory s) xs)
unfolding carried_standing was_of
carried_by a s [] = refl
carried_by a s (j ∷ js) = ap₂ (λ (y : EntryStanding) (ys : List EntryStanding). y ∷ ys) (ap (standing_of a) (sym (former_by a.inventory s j (agents.former a.inventory s j)))) (carried_by a s js)

by_was_alike : (a b : Agent) (ws : List Was) → b.standings ≡ a.standings → map (by_was b) ws ≡ map (by_was a) ws
by_was_alike a b [] same = refl
by_was_alike a b (w ∷ ws) same = ap₂ (λ (y : EntryStanding) (ys : List EntryStanding). y ∷ ys) (said_alike a b (former w) same) (by_was_alike a b ws same) where
  said_alike : (a b : Agent) (o : Option ℕ) → b.standings ≡ a.standings → standing_of b o ≡ standing_of a o
  said_alike a b None same = refl
  said_alike a b (Some i) same = ap (λ (xs : List EntryStanding). standing_in xs i) same

pub changed_alike_law : ChangedAlikeLaw
unfolding all_was
changed_alike_law a b new last s t alike inventories was one two =
    let n = length s.forest.entries in
    let forest : t.forest ≡ s.forest = ap (λ (x : Inventory). x.forest) inventories in
    let machine : changed b.machine t.forest (all_was b.inventory t) ≡ changed a.machine s.forest (all_was a.inventory s) =
    ap₂ (λ (m : WatchState) (f : Forest). changed m f (all_was b.inventory t)) alike.machine forest ∙ ap (changed a.machine s.forest) was in
    let standings : map (carried_standing b t) (range_with_len 0 (length t.forest.entries)) ≡ map (carried_standing a s) (range_with_len 0 n) =
    carried_by b t (range_with_len 0 (length t.forest.entries)) ∙ ap (map (by_was b)) was ∙ by_was_alike a b (all_was a.inventory s) alike.standings ∙ sym (carried_by a s (range_with_len 0 n)) in
    record {
      machine = two.machine.state ∙ machine ∙ sym one.machine.state;
      inventory = subst (λ (x : Inventory). AreInventoriesAlike x last.inventory) (sym one.inventory) (subst (λ (y : Inventory). AreInventoriesAlike s y) (sym two.inventory) inventories);
      standings = two.standings ∙ standings ∙ sym one.standings;
      beginnings = two.beginnings ∙ alike.beginnings ∙ sym one.beginnings;
    }

-- ---- an inventory that is handed over

pub served_alike_law : ServedAlikeLaw
served_alike_law h k l m a b s t alike inventories both was (inl one) (inl two) = same_held h k a.held b.held (ap (λ (x : ServingSide). x.held) one.1) (ap (λ (x : ServingSide). x.held) two.1) alike
served_alike_law h k l m a b s t alike inventories both was (inl one) (inr two) = absurd (two.0 (both.0 one.0))
served_alike_law h k l m a b s t alike inventories both was (inr one) (inl two) = absurd (one.0 (both.1 two.0))
served_alike_law h k l m a b s t alike inventories both was (inr one) (inr two) = record {
  agent = changed_alike_law h.agent k.agent a.held.agent b.held.agent s t alike.agent inventories was one.1.agent two.1.agent;
  unsent = ap (λ (x : Held). x.unsent) two.1.held ∙ alike.unsent ∙ sym (ap (λ (x : Held). x.unsent) one.1.held);
  asked = ap (λ (x : Held). x.asked) two.1.held ∙ alike.asked ∙ sym (ap (λ (x : Held). x.asked) one.1.held);
  until = ap (λ (x : Held). x.until) two.1.held ∙ alike.until ∙ sym (ap (λ (x : Held). x.until) one.1.held);
}
