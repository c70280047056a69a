-- Laws of steps: what holds of every state that events lead to, which needs an event shortens, and when entries are asked.
-- Each is the contract of a public function without a body.
use Rattle.std.specs.Prelude.{◌≡◌, ◌≢◌, ℕ, ◌≤◌, ◌<◌, List, ◌∷◌, ◌++◌, Some, Result, Ok, Err, length}
use Rattle.std.specs.List.{All, Contains}
use Rattle.base_moment.specs.declared.moment.TheConstants.{LAST}
use Rattle.plan_forest.specs.Push.{IsForest}
use Rattle.plan_forest.specs.Forest.{Forest, end_of, entry_at}
use Rattle.plan_rule.specs.Asks.{asks, first_of}
use Rattle.tick_keeper.specs.{declared.event.Event.Event, declared.event.Output.Output, declared.fault.StepFault.StepFault, declared.fault.StepFault.TheVariants.OutOfMemory, declared.shortened.ShortNeed.ShortNeed, InForce.InForce}
use Rattle.tick_keeper.specs.{LawsOfNeeds.IsShortened, Replan.Replan, History.CoreHistory, History.CoreTurn, State.CoreState, State.unplanned, States.IsState, Step.with_new_need}
use Rattle.tick_keeper.specs.declared.event.Event.TheVariants.{Tick, Need}
use Rattle.tick_keeper.specs.declared.event.Output.TheVariants as out

-- whatever events come after the opening, and whatever of them is refused, they lead to such a state
abbrev pub StateLaw : Type 0
StateLaw =
    (g : Forest) (start : ℕ) (old new : CoreState) (events : List Event) (results : List (Result Output StepFault)) → IsForest g → start ≤ LAST → Replan (unplanned g) start old →
    CoreHistory old events results new → IsState old × IsState new

-- planning anew adds these pairs to the needs that were shortened, where it plans with the ends and needs of this state: each
-- pair is shortened, as far as it has to be and no farther, and no other need is changed
pub record Adds (before new : CoreState) : Type 0 where
  pub pairs : List ShortNeed
  pub noted : new.shortened ≡ before.shortened ++ pairs
  pub each : All (IsShortened before.forest new.forest new.last) pairs
  pub others : (i : ℕ) → ((need : ℕ) → Contains pairs (record { entry = i; need = need }) → ⊥) → (entry_at new.forest.entries i).need ≡ (entry_at before.forest.entries i).need

-- the state with the needs that an event plans anew with: with the new one, if it gives one
abbrev pub state_with_need : CoreState → Event → CoreState
state_with_need old (Need i until) = with_new_need old i until
state_with_need old event = old

-- the opening adds such pairs, and so does each event that is not refused. Hence no other need is changed but by Need
abbrev pub AddsLaw : Type 0
AddsLaw =
    ((g : Forest) (start : ℕ) (new : CoreState) → IsForest g → Replan (unplanned g) start new → Adds (unplanned g) new)
    × ((old new : CoreState) (event : Event) (output : Output) → IsState old → CoreTurn old event (Ok output) new → Adds (state_with_need old event) new)

-- these entries are asked at t: the first moment of the plan in force there, which is that of before where the tick is not
-- late. They are the Asks, and someone is asked
pub record IsAskedAt (old : CoreState) (t : ℕ) (asked : List ℕ) (new : CoreState) : Type 0 where
  pub plan : CoreState
  pub made : Replan old t plan
  pub in_force : InForce plan
  pub kept : All (λ u. t ≤ u) old.to_come → plan ≡ record old { last = t }
  pub first : plan.to_come ≡ t ∷ new.to_come
  pub asks : asked ≡ asks plan.forest.entries plan.forest.margin t (end_of plan.forest.entries) t (first_of new.to_come)
  pub someone : 0 < length asked

-- Ask is answered to such a tick alone
abbrev pub AskLaw : Type 0
AskLaw =
    (old new : CoreState) (event : Event) (asked : List ℕ) → IsState old → CoreTurn old event (Ok (out.Ask asked)) new →
    (t : ℕ) × ((event ≡ Tick t) × IsAskedAt old t asked new)

-- an event gives one result and one state, lack of memory aside
abbrev pub OneResultLaw : Type 0
OneResultLaw =
    (old x y : CoreState) (event : Event) (result other : Result Output StepFault) → result ≢ Err OutOfMemory → other ≢ Err OutOfMemory → CoreTurn old event result x →
    CoreTurn old event other y → (result ≡ other) × (x ≡ y)

-- h has the entries of g, but for their ends, their needs and whether they are renewable
pub record IsShaped (g h : Forest) : Type 0 where
  pub margin : h.margin ≡ g.margin
  pub count : length h.entries ≡ length g.entries
  pub each : (i : ℕ) → entry_at h.entries i
      ≡ record (entry_at g.entries i) { end = (entry_at h.entries i).end; renewable = (entry_at h.entries i).renewable; need = (entry_at h.entries i).need }

-- no event changes more of a forest
abbrev pub ShapeLaw : Type 0
ShapeLaw = (old new : CoreState) (event : Event) (result : Result Output StepFault) → CoreTurn old event result new → IsShaped old.forest new.forest

-- a tick at the first moment to come asks, and so does the one that comes at the moment of a Sleep, or at the next one of a
-- Round
abbrev pub NextAsksLaw : Type 0
NextAsksLaw = (s new : CoreState) (w : ℕ) (output : Output) → InForce s → first_of s.to_come ≡ Some w → CoreTurn s (Tick w) (Ok output) new → (asked : List ℕ) × (output ≡ out.Ask asked)
