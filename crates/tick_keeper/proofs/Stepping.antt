-- One event after another: a refusal is a turn of its own, and a history goes on with one turn more.
use Rattle.std.proofs.Common.{◌≡◌, ◌++◌, Bool, true, false, cond, List, [], ◌∷◌, Option, Some, None, IfSome, Result, Err, is_some, length, nat_le, nat_lt, refl, subst}
use Rattle.base_moment.specs.declared.moment.TheConstants.{LAST}
use Rattle.tick_keeper.specs.{declared.event.Event.Event, declared.event.Output.Output, declared.fault.StepFault.StepFault, declared.refusal.TheConstants.LONGEST, Refusal.step_refusal, Refusal.waits_for}
use Rattle.tick_keeper.specs.{History.CoreHistory, History.CoreTurn, State.CoreState, State.Round}
use Rattle.tick_keeper.specs.declared.event.Event.TheVariants.{Tick, Told, Refused, Lost, Need}
use Rattle.tick_keeper.specs.declared.fault.StepFault.TheVariants.{ClockBack, RoundOpen, NotAsked, BadIndex, OutOfRange, TooLong, OutOfMemory}

-- a fault that does not come of planning anew
abbrev IsEarly : StepFault → Type 0
IsEarly TooLong = ⊥
IsEarly OutOfMemory = ⊥
IsEarly fault = Unit {0}

by_test : (b : Bool) (fault : StepFault) (o : Option StepFault) → IsEarly fault → IfSome o IsEarly → IfSome (cond b (Some fault) o) IsEarly
by_test true fault o early rest = early
by_test false fault o early rest = rest

while_open : (round : Option Round) → IfSome (cond (is_some round) (Some RoundOpen) None) IsEarly
while_open None = tt
while_open (Some round) = tt

not_waited : (there waited : Bool) → IfSome (cond there (Some BadIndex) (cond waited None (Some NotAsked))) IsEarly
not_waited true waited = tt
not_waited false true = tt
not_waited false false = tt

refusal_early : (s : CoreState) (event : Event) → IfSome (step_refusal s event) IsEarly
unfolding step_refusal
refusal_early s (Tick t) = by_test (nat_lt LAST t) OutOfRange _ tt (by_test (nat_lt t s.last) ClockBack _ tt (while_open s.round))
refusal_early s (Told i seconds renewable) = by_test (nat_lt LONGEST seconds) OutOfRange _ tt (not_waited (nat_le (length s.forest.entries) i) (waits_for s.round i))
refusal_early s (Refused i) = not_waited (nat_le (length s.forest.entries) i) (waits_for s.round i)
refusal_early s (Lost i) = not_waited (nat_le (length s.forest.entries) i) (waits_for s.round i)
refusal_early s (Need i until) = by_test (nat_lt LAST until) OutOfRange _ tt (by_test (nat_le (length s.forest.entries) i) BadIndex _ tt (while_open s.round))

-- a refused event is a turn that leaves the state
pub refused : (s : CoreState) (event : Event) (fault : StepFault) → step_refusal s event ≡ Some fault → CoreTurn s event (Err fault) s
refused s event fault is = by_fault fault is (subst (λ o. IfSome o IsEarly) is (refusal_early s event)) where
  by_fault : (fault : StepFault) → step_refusal s event ≡ Some fault → IsEarly fault → CoreTurn s event (Err fault) s
  by_fault ClockBack is early = (is, refl)
  by_fault RoundOpen is early = (is, refl)
  by_fault NotAsked is early = (is, refl)
  by_fault BadIndex is early = (is, refl)
  by_fault OutOfRange is early = (is, refl)
  by_fault TooLong is early = absurd early
  by_fault OutOfMemory is early = absurd early

-- one turn more
pub history_more :
    (old mid new : CoreState) (events : List Event) (event : Event) (results : List (Result Output StepFault)) (result : Result Output StepFault) →
    CoreHistory old events results mid → CoreTurn mid event result new → CoreHistory old (events ++ event ∷ []) (results ++ result ∷ []) new
history_more old mid new [] event [] result history turn = (new, (subst (λ s. CoreTurn s event result new) history turn, refl))
history_more old mid new (e ∷ events) event (r ∷ results) result history turn = (history.0, (history.1.0, history_more history.0 mid new events event results result history.1.1 turn))
history_more old mid new _ event _ result history turn = absurd history
