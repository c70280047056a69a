-- Taking: what the parts of a step say of it is a turn of the definitions. For `step`.
use Rattle.std.proofs.Common.{◌≡◌, ℕ, Option, Some, None, Result, Ok, Err, IfErr, IfOk, OnErr, refl}
use Rattle.watch_machine.specs.{declared.command.WatchOutput.WatchOutput, declared.event.WatchEvent.WatchEvent, declared.event.Operation.Operation, declared.fault.WatchFault.WatchFault, declared.lanes.Out.Out, History.Turn}
use Rattle.watch_machine.specs.{State.WatchState, Step.Step, Step.TurnMayWantMemory}
use Rattle.watch_machine.specs.declared.event.WatchEvent.TheVariants.{Clock, Looked, Renewed, Need, Begin, Known}
use Rattle.watch_machine.specs.declared.event.Operation.TheVariants.{Look, Renew}
use Rattle.watch_machine.specs.declared.fault.WatchFault.TheVariants.{NotAsked, BadIndex, OutOfMemory}
use Rattle.watch_machine.specs.Refusal.{refusal, request_out, unless_asked, unless_some, unless_within}
use Rattle.watch_machine.proofs.Cases.{if_both}

-- no event is refused for lack of memory
abbrev pub NotMemory : Option WatchFault → Type 0
NotMemory o = o ≡ Some OutOfMemory → ⊥

within_not : (s : WatchState) (i : ℕ) (other : Option WatchFault) → NotMemory other → NotMemory (unless_within s i other)
within_not s i other h = if_both NotMemory _ (Some BadIndex) other (λ e. cc) h

some_not : (s : WatchState) (i : ℕ) (o : Option Out) → NotMemory (unless_some s i o)
some_not s i None = within_not s i (Some NotAsked) (λ e. cc)
some_not s i (Some r) = λ e. cc

asked_not : (s : WatchState) (i : ℕ) (operation : Operation) → NotMemory (unless_asked s i operation)
asked_not s i operation = some_not s i (request_out s.out i operation)

refusal_not : (s : WatchState) (event : WatchEvent) → NotMemory (refusal s event)
unfolding refusal
refusal_not s (Clock wall elapsed) = λ e. cc
refusal_not s (Looked i reply terms) = asked_not s i Look
refusal_not s (Renewed i reply) = asked_not s i Renew
refusal_not s (Need i until) = within_not s i None (λ e. cc)
refusal_not s Begin = λ e. cc
refusal_not s (Known i end renewable) = within_not s i None (λ e. cc)

pub refused_turn : (s : WatchState) (event : WatchEvent) (fault : WatchFault) → refusal s event ≡ Some fault → Turn s event (Err fault) s
refused_turn s event NotAsked h = (h, refl)
refused_turn s event BadIndex h = (h, refl)
refused_turn s event OutOfMemory h = absurd (refusal_not s event h)

-- an event that may want memory, and whose part of the step wants nothing else
pub taken_turn :
    (old new : WatchState) (event : WatchEvent) (r : Result WatchOutput WatchFault) → refusal old event ≡ None → TurnMayWantMemory event → IfOk r (λ output. Step old event output new) →
    IfErr r (λ fault. fault ≡ OutOfMemory) → OnErr r (new ≡ old) → Turn old event r new
taken_turn old new event (Ok output) none may is fault same = (none, is)
taken_turn old new event (Err OutOfMemory) none may is fault same = (none, (may, same))
taken_turn old new event (Err NotAsked) none may is fault same = absurd cc
taken_turn old new event (Err BadIndex) none may is fault same = absurd cc
