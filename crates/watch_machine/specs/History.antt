-- History: what every list of events gives, and of changes of what is watched among them.
-- Source: this project's own.
use Rattle.std.specs.Prelude.{◌≡◌, ℕ, List, [], ◌∷◌, Option, Some, None, Result, Ok, Err, length}
use Rattle.plan_forest.specs.Forest.{Forest}
use Rattle.watch_machine.specs.{declared.change.Was.Was, declared.command.WatchOutput.WatchOutput, declared.event.WatchEvent.WatchEvent, declared.fault.WatchFault.WatchFault, declared.fault.WatchFault.TheVariants.OutOfMemory}
use Rattle.watch_machine.specs.{Refusal.refusal, State.WatchState, State.opened, Step.Step, Step.TurnMayWantMemory}
use Rattle.watch_machine.specs.Change.{IsChange, changed, former_at}

-- what an event gives: a step; or a refusal, which leaves the state. Lack of memory may take the place of a step
abbrev pub Turn : WatchState → WatchEvent → Result WatchOutput WatchFault → WatchState → Type 0
Turn old event (Ok output) new = (refusal old event ≡ None) × Step old event output new
Turn old event (Err OutOfMemory) new = (refusal old event ≡ None) × (TurnMayWantMemory event × (new ≡ old))
Turn old event (Err fault) new = (refusal old event ≡ Some fault) × (new ≡ old)

-- an event, what it gave, and the state after it
pub record Turned : Type 0 where
  pub event : WatchEvent
  pub result : Result WatchOutput WatchFault
  pub state : WatchState

-- what events gave one after another
abbrev pub History : WatchState → List Turned → Type 0
History old [] = Unit {0}
History old (turn ∷ turns) = Turn old turn.event turn.result turn.state × History turn.state turns

-- all that a watch of that forest and width was handed, from its making on
abbrev pub IsWatchRun : Forest → ℕ → List Turned → Type 0
IsWatchRun g width turns = History (opened g width) turns

-- the state after all turns of a run
abbrev pub after_all : WatchState → List Turned → WatchState
after_all s [] = s
after_all s (turn ∷ turns) = after_all turn.state turns

-- ---- a run over changes

-- another forest is watched from then on: that one, with where its entries were, and the state after it
pub record Changed : Type 0 where
  pub forest : Forest
  pub was : List Was
  pub state : WatchState

-- what happens to a watch: it is handed an event, or another forest is watched
pub data Happening : Type 0 where
  Hands : Turned → Happening
  Changes : Changed → Happening

-- a change that may be made was made
pub record IsChanged (old : WatchState) (c : Changed) : Type 0 where
  pub may : IsChange (length old.forest.entries) c.forest c.was
  pub state : c.state ≡ changed old c.forest c.was

abbrev pub Happens : WatchState → Happening → Type 0
Happens old (Hands turn) = Turn old turn.event turn.result turn.state
Happens old (Changes c) = IsChanged old c

abbrev pub state_after : Happening → WatchState
state_after (Hands turn) = turn.state
state_after (Changes c) = c.state

-- what happened to a watch, one after another
abbrev pub AllHappen : WatchState → List Happening → Type 0
AllHappen old [] = Unit {0}
AllHappen old (h ∷ hs) = Happens old h × AllHappen (state_after h) hs

-- all that happened to a watch of that forest and width, from its making on
abbrev pub IsRun : Forest → ℕ → List Happening → Type 0
IsRun g width hs = AllHappen (opened g width) hs

-- the state after all of it
abbrev pub state_after_all : WatchState → List Happening → WatchState
state_after_all s [] = s
state_after_all s (h ∷ hs) = state_after_all (state_after h) hs

-- a state that a run leads to
pub record IsReached (s : WatchState) : Type 0 where
  pub forest : Forest
  pub width : ℕ
  pub run : List Happening
  pub is_run : IsRun forest width run
  pub leads : state_after_all (opened forest width) run ≡ s

-- ---- one entry through a run

-- where the entry that stands at k after something has happened stood before it, None where it was not yet
abbrev pub stood_at : Happening → ℕ → Option ℕ
stood_at (Hands turn) k = Some k
stood_at (Changes c) k = former_at c.was k

abbrev pub stood_at_some : Happening → Option ℕ → Option ℕ
stood_at_some h None = None
stood_at_some h (Some k) = stood_at h k

-- and before all of this
abbrev pub stood : List Happening → ℕ → Option ℕ
stood [] k = Some k
stood (h ∷ hs) k = stood_at_some h (stood hs k)
