-- Step: what one event does that is not refused, by cases on the event and the output.
-- Source: this project's own, over Vault, "Lease, renew, and revoke" (a renewal's TTL counts from the renewal).
use Rattle.std.specs.Prelude.{◌≡◌, ◌≢◌, ◌==◌, ℕ, ◌+◌, ◌<◌, ◌≤◌, false, not, List, [], ◌∷◌, Option, Some, None, filter, slice_set}
use Rattle.plan_forest.specs.declared.entry.Entry.{Entry}
use Rattle.plan_forest.specs.Forest.{Forest, end_of, entry_at}
use Rattle.plan_rule.specs.Asks.{asks, first_of}
use Rattle.tick_keeper.specs.{declared.event.Event.Event, declared.event.Output.Output, Replan.ReplanTooLong, Replan.Replan, State.CoreState, State.Round}
use Rattle.tick_keeper.specs.declared.event.Event.TheVariants.{Tick, Told, Refused, Lost, Need}
use Rattle.tick_keeper.specs.declared.event.Output.TheVariants as out

-- the forest with the entry i changed
abbrev pub with_entry_changed : Forest → ℕ → (Entry → Entry) → Forest
with_entry_changed g i f = record { entries = slice_set g.entries i (f (entry_at g.entries i)); margin = g.margin }

-- the entry that an answer is of
abbrev pub entry_of_event : Event → ℕ
entry_of_event (Tick t) = 0
entry_of_event (Told i seconds renewable) = i
entry_of_event (Refused i) = i
entry_of_event (Lost i) = i
entry_of_event (Need i until) = i

-- what an answer to a round at this moment makes of its entry: told, it ends so many seconds after the round's moment, and
-- is renewable as told; refused, it is not renewable; lost, it is as it was
unfoldable pub entry_after_answer : ℕ → Event → Entry → Entry
entry_after_answer at (Told i seconds renewable) e = record e { end = at + seconds; renewable = renewable }
entry_after_answer at (Refused i) e = record e { renewable = false }
entry_after_answer at event e = e

unfoldable pub without_index : ℕ → List ℕ → List ℕ
without_index i xs = filter (λ j. not (j == i)) xs

-- the round without an entry that has answered
abbrev pub left : Round → ℕ → Round
left round i = record { at = round.at; unanswered = without_index i round.unanswered }

-- the state after an answer to a round, with what is then the round
abbrev pub state_after_answer : CoreState → Event → ℕ → Option Round → CoreState
state_after_answer s event at round = record s { forest = with_entry_changed s.forest (entry_of_event event) (entry_after_answer at event); round = round }

-- the state with a new need
abbrev pub with_new_need : CoreState → ℕ → ℕ → CoreState
with_new_need s i until = record s { forest = with_entry_changed s.forest i (λ e. record e { need = until }) }

-- the round that opens at t: the Asks, where the next moment is that
abbrev pub round_opened : CoreState → ℕ → Option ℕ → Round
round_opened s t next = record { at = t; unanswered = asks s.forest.entries s.forest.margin t (end_of s.forest.entries) t next }

-- a tick: planned anew at t, and then by the first of the moments to come
abbrev pub StepTick : CoreState → ℕ → Output → CoreState → Type 0
StepTick old t out.Idle new = Replan old t new × (new.to_come ≡ [])
StepTick old t (out.Sleep w) new = Replan old t new × ((first_of new.to_come ≡ Some w) × (t < w))
StepTick old t (out.Ask asked) new =
    (mid : CoreState) × (Replan old t mid × ((rest : List ℕ) × ((mid.to_come ≡ t ∷ rest)
    × ((asked ≡ (round_opened mid t (first_of rest)).unanswered) × (new ≡ record mid { to_come = rest; round = Some (round_opened mid t (first_of rest)) })))))
StepTick old t output new = ⊥

-- an answer: others are still waited for, or the round closes and is planned anew at its moment
abbrev pub StepAnswer : CoreState → Event → Output → CoreState → Type 0
StepAnswer old event out.Waiting new =
    (round : Round) × ((old.round ≡ Some round) × (((left round (entry_of_event event)).unanswered ≢ []) × (new ≡ state_after_answer old event round.at (Some (left round (entry_of_event event))))))
StepAnswer old event (out.Round next) new =
    (round : Round) × ((old.round ≡ Some round) × (((left round (entry_of_event event)).unanswered ≡ [])
    × (Replan (state_after_answer old event round.at None) round.at new × (next ≡ first_of new.to_come))))
StepAnswer old event output new = ⊥

-- a new need: it is set, and planned anew at the last moment
abbrev pub StepNeed : CoreState → ℕ → ℕ → Output → CoreState → Type 0
StepNeed old i until out.Planned new = Replan (with_new_need old i until) old.last new
StepNeed old i until output new = ⊥

-- one step that is not refused
abbrev pub CoreStep : CoreState → Event → Output → CoreState → Type 0
CoreStep old (Tick t) output new = StepTick old t output new
CoreStep old (Told i seconds renewable) output new = StepAnswer old (Told i seconds renewable) output new
CoreStep old (Refused i) output new = StepAnswer old (Refused i) output new
CoreStep old (Lost i) output new = StepAnswer old (Lost i) output new
CoreStep old (Need i until) output new = StepNeed old i until output new

-- the plan made anew is too long: with a new need alone. No tick and no answer makes a plan longer than the one in force was
abbrev pub StepTooLong : CoreState → Event → Type 0
StepTooLong old (Need i until) = ReplanTooLong (with_new_need old i until).forest old.last
StepTooLong old event = ⊥

-- the first moment to come is there, and is no later than t
abbrev pub IsDueBy : ℕ → Option ℕ → Type 0
IsDueBy t None = ⊥
IsDueBy t (Some w) = w ≤ t

-- the answer is the last of its round
abbrev pub IsLastAnswer : CoreState → Event → Type 0
IsLastAnswer old event = (round : Round) × ((old.round ≡ Some round) × ((left round (entry_of_event event)).unanswered ≡ []))

-- what may want memory: a tick at the first moment to come or after it, the last answer of a round, and a need
abbrev pub StepMayWantMemory : CoreState → Event → Type 0
StepMayWantMemory old (Tick t) = IsDueBy t (first_of old.to_come)
StepMayWantMemory old (Told i seconds renewable) = IsLastAnswer old (Told i seconds renewable)
StepMayWantMemory old (Refused i) = IsLastAnswer old (Refused i)
StepMayWantMemory old (Lost i) = IsLastAnswer old (Lost i)
StepMayWantMemory old (Need i until) = Unit {0}
