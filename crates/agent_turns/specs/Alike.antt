-- Alike: two agents whose inventories differ in credentials alone. The contract of a public function without a body.
-- Source: this project's own.
use Rattle.std.specs.Prelude.{◌≡◌, ◌↔◌, ◌++◌, ℕ, Bool, List, [], ◌∷◌, Option, None, Some}
use Rattle.agent_standing.specs.{Agent.Agent, Changed.AgentIsChanged, Changed.all_was}
use Rattle.vault_asking.specs.{Sending.Lanes, declared.told.Said.Said}
use Rattle.base_clock.specs.declared.reading.Reading.{Reading}
use Rattle.vault_inventory.specs.Inventories.{Inventory}
use Rattle.vault_lanes.specs.declared.lanes.Answered.{Answered}
use Rattle.watch_machine.specs.declared.command.WatchRequest.{WatchRequest}
use Rattle.agent_turns.specs.{Changes.MadeChange, Changes.ServesInventory, Stages.AnswersAreTaken, declared.change.AgentChange.AgentChange}
use Rattle.agent_turns.specs.Held.{Held, ServingSide, serving_side}
use Rattle.agent_turns.specs.Words.{AllFollow, HandsBy, TurnFollowsWords, Words}
use Rattle.agent_turns.specs.declared.change.AgentChange.TheVariants.{Need, Begin, Known, Serve, Kept}

-- ---- what is alike

abbrev pub AreInventoriesAlike : Inventory → Inventory → Type 0
AreInventoriesAlike s t = t ≡ record s { credentials = t.credentials }

pub record AreAgentsAlike (a b : Agent) : Type 0 where
  pub machine : b.machine ≡ a.machine
  pub inventory : AreInventoriesAlike a.inventory b.inventory
  pub standings : b.standings ≡ a.standings
  pub beginnings : b.beginnings ≡ a.beginnings

-- the answers that wait may be others
pub record AreHeldAlike (h k : Held) : Type 0 where
  pub agent : AreAgentsAlike h.agent k.agent
  pub unsent : k.unsent ≡ h.unsent
  pub asked : k.asked ≡ h.asked
  pub until : k.until ≡ h.until

-- the same inventory is served after a change, and after that of a turn
abbrev pub KeepsInventory : AgentChange → Type 0
KeepsInventory (Need i until) = Unit {0}
KeepsInventory Begin = Unit {0}
KeepsInventory (Known i end renewable) = Unit {0}
KeepsInventory (Serve s) = ⊥
KeepsInventory Kept = Unit {0}

abbrev pub OneKeepsInventory : Option MadeChange → Type 0
OneKeepsInventory None = Unit {0}
OneKeepsInventory (Some m) = KeepsInventory m.change

-- the words of two turns in which the same inventory is served, but for the answers
pub record AreWordsAlike (w v : Words) : Type 0 where
  pub reading : v.reading ≡ w.reading
  pub is_said : v.is_said ≡ w.is_said
  pub made : v.made ≡ w.made
  pub keep : OneKeepsInventory w.made

abbrev pub AllWordsAlike : List Words → List Words → Type 0
AllWordsAlike [] [] = Unit {0}
AllWordsAlike [] (v ∷ vs) = ⊥
AllWordsAlike (w ∷ ws) [] = ⊥
AllWordsAlike (w ∷ ws) (v ∷ vs) = AreWordsAlike w v × AllWordsAlike ws vs

-- ---- the content of answers

-- whom an answer is for, and what it says of the entry. It has no credential
pub record Content : Type 0 where
  pub index : ℕ
  pub said : Said

abbrev pub contents_taken : (answers : List Answered) (old new : Agent) → AnswersAreTaken answers old new → List Content
contents_taken [] old new h = []
contents_taken (a ∷ rest) old new h = record { index = a.index; said = h.1.0.said } ∷ contents_taken rest h.0 new h.1.1

-- of those that are handed in in a turn, and in turns one after another
abbrev pub contents_at : (reading : Option Reading) (came : List Answered) (is_said : Bool) (old : Held) (sent : List WatchRequest) (new : Held) → HandsBy reading came is_said old sent new → List Content
contents_at None came is_said old sent new h = []
contents_at (Some r) came is_said old sent new h = contents_taken (old.pending ++ came) old.agent h.told h.taken

abbrev pub contents_in : (w : Words) (old : Held) (sent : List WatchRequest) (new : Held) → TurnFollowsWords w old sent new → List Content
contents_in w old sent new h = contents_at w.reading w.came w.is_said old sent h.mid h.hands

abbrev pub contents : (words : List Words) (old : Held) (sent : List (List WatchRequest)) (new : Held) → AllFollow words old sent new → List (List Content)
contents [] old sent new h = []
contents (w ∷ rest) old [] new h = []
contents (w ∷ rest) old (s ∷ later) new h = contents_in w old s h.0 h.1.0 ∷ contents rest h.0 later new h.1.1

-- ---- laws

-- two agents whose inventories differ in credentials alone, with the same readings and changes, and answers of the same content: the
-- same requests go out, of the same entries, and the agents differ in credentials alone again, in each turn
abbrev pub AlikeLaw : Type 0
AlikeLaw =
    (words more : List Words) (h k new last : Held) (sent out : List (List WatchRequest)) (one : AllFollow words h sent new) (two : AllFollow more k out last) → AreHeldAlike h k → AllWordsAlike words more →
    contents more k out last two ≡ contents words h sent new one → (out ≡ sent) × AreHeldAlike new last

-- and so they do after another inventory is served, if the same of its entries were served before
abbrev pub ChangedAlikeLaw : Type 0
ChangedAlikeLaw =
    (a b new last : Agent) (s t : Inventory) → AreAgentsAlike a b → AreInventoriesAlike s t → all_was b.inventory t ≡ all_was a.inventory s → AgentIsChanged a s new → AgentIsChanged b t last → AreAgentsAlike new last

-- and after an inventory was handed over to each, which is served already by both or by neither
abbrev pub ServedAlikeLaw : Type 0
ServedAlikeLaw =
    (h k : Held) (l m : Lanes) (a b : ServingSide) (s t : Inventory) → AreHeldAlike h k → AreInventoriesAlike s t → ((s ≡ h.agent.inventory) ↔ (t ≡ k.agent.inventory)) →
    all_was k.agent.inventory t ≡ all_was h.agent.inventory s → ServesInventory s (serving_side h l) a → ServesInventory t (serving_side k m) b → AreHeldAlike a.held b.held
