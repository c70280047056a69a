-- RunOfWatch: the run of the Watch of an agent, from its making on. Ends that were told before are handed to it first, then come the
-- events of turns, and the changes of what it watches.
-- Source: this project's own.
use Rattle.std.specs.Prelude.{◌≡◌, ℕ, ◌++◌, Bool, true, false, List, [], ◌∷◌, filter}
use Rattle.std.specs.List.{flat_map}
use Rattle.agent_standing.specs.Agent.{Agent, fresh}
use Rattle.vault_inventory.specs.Inventories.{Inventory}
use Rattle.plan_forest.specs.Forest.{Forest}
use Rattle.watch_machine.specs.{declared.event.WatchEvent.WatchEvent, State.WatchState, State.opened}
use Rattle.watch_machine.specs.History.{Happening, Hands, Changes, IsRun, state_after_all}
use Rattle.watch_machine.specs.declared.event.WatchEvent.TheVariants as events
use Rattle.agent_turns.specs.{Held.ServingSide, Held.held_at_first, Resuming.AreResumed, Resuming.IsResumed, Runs.AreTurns, Turns.ServingTurn}
use Rattle.agent_turns.specs.Apart.{Ending, EndsBy, IsWaitedApart, Waited, Spent, Unread, Over, Changed}
use Rattle.agent_turns.specs.Happenings.{handed, happenings_of, happenings_of_change}

-- ---- what it is handed first

-- an end that was told before, also one that the Watch refuses; anything else is no event
abbrev pub happenings_of_known : (e : WatchEvent) (old new : Agent) → IsResumed e old new → List Happening
happenings_of_known (events.Clock wall elapsed) old new h = []
happenings_of_known (events.Looked i reply terms) old new h = []
happenings_of_known (events.Renewed i reply) old new h = []
happenings_of_known (events.Need i until) old new h = []
happenings_of_known events.Begin old new h = []
happenings_of_known (events.Known i end renewable) old new h = handed (events.Known i end renewable) h.0 new ∷ []

abbrev pub happenings_of_resuming : (es : List WatchEvent) (old new : Agent) → AreResumed es old new → List Happening
happenings_of_resuming [] old new h = []
happenings_of_resuming (e ∷ rest) old new h = happenings_of_known e old h.0 h.1.0 ++ happenings_of_resuming rest h.0 new h.1.1

-- ---- a start that waits

-- a change may end its wait
abbrev pub happenings_of_wait : (until : ℕ) (ending : Ending) (old new : ServingSide) → EndsBy until ending old new → List Happening
happenings_of_wait until Spent old new h = []
happenings_of_wait until Unread old new h = []
happenings_of_wait until (Over r) old new h = []
happenings_of_wait until (Changed r shown is_busy change) old new h = happenings_of_change change true old new h.1.1

-- ---- laws

-- this is a run of a Watch of that forest and width, from its making on, and leads to this state
abbrev pub IsRunTo : Forest → ℕ → List Happening → WatchState → Type 0
IsRunTo g width happenings now = IsRun g width happenings × (state_after_all (opened g width) happenings ≡ now)

-- a start, in which ends that were told before are handed over, and which may wait (one that does not is one of no pauses), and any turns
-- after it: all that happens to the Watch of the agent, from its making on, is one run, whatever inventories are served one after another
abbrev pub ServingLaw : Type 0
ServingLaw =
    (port width until most : ℕ) (known : List WatchEvent) (s : Inventory) (agent shown : Agent) (start begun new : ServingSide) (w : Waited) (turns : List ServingTurn) →
    (resumed : AreResumed known (fresh s width) agent) → start.held ≡ held_at_first agent → (waited : IsWaitedApart until most shown start w begun) (are : AreTurns port begun turns new) →
    IsRunTo s.forest width (happenings_of_resuming known (fresh s width) agent resumed ++ (happenings_of_wait until w.ending start begun waited.ends ++ happenings_of port begun turns new are)) new.held.agent.machine

-- the first events of it are those of all ends that the start was given
abbrev pub is_told_before : WatchEvent → Bool
is_told_before (events.Clock wall elapsed) = false
is_told_before (events.Looked i reply terms) = false
is_told_before (events.Renewed i reply) = false
is_told_before (events.Need i until) = false
is_told_before events.Begin = false
is_told_before (events.Known i end renewable) = true

abbrev pub event_in : Happening → List WatchEvent
event_in (Hands turn) = turn.event ∷ []
event_in (Changes c) = []

abbrev pub events_of : List Happening → List WatchEvent
events_of happenings = flat_map event_in happenings

abbrev pub ResumedLaw : Type 0
ResumedLaw = (es : List WatchEvent) (s : Inventory) (width : ℕ) (new : Agent) (h : AreResumed es (fresh s width) new) → events_of (happenings_of_resuming es (fresh s width) new h) ≡ filter is_told_before es
