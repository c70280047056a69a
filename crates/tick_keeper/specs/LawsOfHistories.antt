-- Laws of histories: what holds over every list of events. Each is the contract of a public function without a body.
use Rattle.std.specs.Prelude.{◌≡◌, ◌==◌, ◌≢◌, ℕ, true, if◌then◌else◌, List, [], ◌∷◌, Option, Some, None, Result, Ok, Err}
use Rattle.tick_keeper.specs.{declared.event.Event.Event, declared.event.Output.Output, declared.fault.StepFault.StepFault, declared.fault.StepFault.TheVariants.OutOfMemory, InForce.InForceBetweenRounds}
use Rattle.tick_keeper.specs.{Refusal.TellsSpan, Refusal.waits_for, History.CoreHistory, State.CoreState, State.Round, States.IsState, Step.entry_of_event, Step.left}
use Rattle.tick_keeper.specs.declared.event.Event.TheVariants.{Tick, Told, Refused, Lost, Need}

abbrev pub IsAnswerEvent : Event → Type 0
IsAnswerEvent (Tick t) = ⊥
IsAnswerEvent (Told i seconds renewable) = Unit {0}
IsAnswerEvent (Refused i) = Unit {0}
IsAnswerEvent (Lost i) = Unit {0}
IsAnswerEvent (Need i until) = ⊥

-- these answer a round: each is of an entry that is then waited for, and tells no more seconds than can be told
abbrev pub AnswerEach : Round → List Event → Type 0
AnswerEach round [] = Unit {0}
AnswerEach round (event ∷ events) = IsAnswerEvent event × (TellsSpan event × ((waits_for (Some round) (entry_of_event event) ≡ true) × AnswerEach (left round (entry_of_event event)) events))

-- who is then left
abbrev pub unanswered_after : Round → List Event → List ℕ
unanswered_after round [] = round.unanswered
unanswered_after round (event ∷ events) = unanswered_after (left round (entry_of_event event)) events

-- none is refused for lack of memory
abbrev pub NoneWants : List (Result Output StepFault) → Type 0
NoneWants [] = Unit {0}
NoneWants (result ∷ results) = (result ≢ Err OutOfMemory) × NoneWants results

-- none is refused
abbrev pub AllTaken : List (Result Output StepFault) → Type 0
AllTaken [] = Unit {0}
AllTaken (Ok output ∷ results) = AllTaken results
AllTaken (Err fault ∷ results) = ⊥

-- such answers are taken, lack of memory aside; and where nobody is left, they close the round
abbrev pub ClosesLaw : Type 0
ClosesLaw =
    (old new : CoreState) (round : Round) (events : List Event) (results : List (Result Output StepFault)) → IsState old → old.round ≡ Some round → AnswerEach round events →
    NoneWants results → CoreHistory old events results new → AllTaken results × (unanswered_after round events ≡ [] → new.round ≡ None)

-- the first answer for i, None where there is none
unfoldable pub answer_for : List Event → ℕ → Option Event
answer_for [] i = None
answer_for (event ∷ events) i = if entry_of_event event == i then Some event else answer_for events i

-- two orders of the same such answers end in equal states, lack of memory aside. No entry has two answers; so "the same
-- answers" is "the same for each entry"
abbrev pub OrderLaw : Type 0
OrderLaw =
    (old x y : CoreState) (round : Round) → IsState old → old.round ≡ Some round → (these others : List Event) → AnswerEach round these → AnswerEach round others →
    ((i : ℕ) → answer_for these i ≡ answer_for others i) → (results more : List (Result Output StepFault)) → NoneWants results → NoneWants more →
    CoreHistory old these results x → CoreHistory old others more y → x ≡ y

-- whatever events come, the plan in force is the least and latest one whenever no round is open
abbrev pub InForceLaw : Type 0
InForceLaw =
    (old new : CoreState) (events : List Event) (results : List (Result Output StepFault)) → InForceBetweenRounds old → CoreHistory old events results new → InForceBetweenRounds new
