-- History: what every list of events gives.
-- Source: this project's own.
use Rattle.std.specs.Prelude.{◌≡◌, List, [], ◌∷◌, Some, None, Result, Ok, Err}
use Rattle.tick_keeper.specs.{declared.event.Event.Event, declared.event.Output.Output, declared.fault.StepFault.StepFault, Refusal.step_refusal, State.CoreState}
use Rattle.tick_keeper.specs.declared.fault.StepFault.TheVariants.{TooLong, OutOfMemory}
use Rattle.tick_keeper.specs.Step.{CoreStep, StepMayWantMemory, StepTooLong}

-- what an event gives: a step; or a refusal, which leaves the state. Lack of memory may take the place of a step
abbrev pub CoreTurn : CoreState → Event → Result Output StepFault → CoreState → Type 0
CoreTurn old event (Ok output) new = (step_refusal old event ≡ None) × CoreStep old event output new
CoreTurn old event (Err TooLong) new = (step_refusal old event ≡ None) × (StepTooLong old event × (new ≡ old))
CoreTurn old event (Err OutOfMemory) new = (step_refusal old event ≡ None) × (StepMayWantMemory old event × (new ≡ old))
CoreTurn old event (Err fault) new = (step_refusal old event ≡ Some fault) × (new ≡ old)

-- what events give one after another
abbrev pub CoreHistory : CoreState → List Event → List (Result Output StepFault) → CoreState → Type 0
CoreHistory old [] [] new = new ≡ old
CoreHistory old (event ∷ events) (result ∷ results) new = (mid : CoreState) × (CoreTurn old event result mid × CoreHistory mid events results new)
CoreHistory old events results new = ⊥
