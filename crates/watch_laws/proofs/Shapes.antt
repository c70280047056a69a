-- Shapes: no turn changes how many entries there are. For the laws of recovery, starts and outages.
use Rattle.std.proofs.Common.{◌≡◌, ◌∙◌, List, [], ◌∷◌, Option, Some, None, Result, Ok, Err, length, refl, ap}
use Rattle.std.proofs.lemmas.List.{length-set}
use Rattle.plan_forest.specs.Forest.{Forest}
use Rattle.watch_machine.specs.{declared.command.WatchOutput.WatchOutput, declared.event.WatchEvent.WatchEvent, declared.event.WatchReply.WatchReply, declared.event.WatchReply.TheVariants.Told, declared.event.WatchTerms.WatchTerms}
use Rattle.watch_machine.specs.{declared.fault.WatchFault.WatchFault, declared.lanes.Out.Out, Answers.noted, Answers.replied, Looked.looked, Refusal.request_out, Renewed.state_renewed, State.WatchState}
use Rattle.watch_machine.specs.declared.event.WatchEvent.TheVariants.{Clock, Looked, Renewed, Need}
use Rattle.watch_machine.specs.declared.event.Operation.TheVariants.{Look, Renew}
use Rattle.watch_machine.specs.History.{History, Turn, Turned, after_all}
use Rattle.watch_machine.specs.Step.{Step, StepLooked, StepRenewed, with_need_until}
use Rattle.watch_laws.proofs.{Clocking.refused_stays, Lanes.ticks, Lasting.clock_forest, Tracking.replied_forest}

-- no turn changes how many entries there are, nor the margin
abbrev pub Shape : WatchState → WatchState → Type 0
Shape new old = (length new.forest.entries ≡ length old.forest.entries) × (new.forest.margin ≡ old.forest.margin)

looked_shape : (s : WatchState) (q : Out) (reply : WatchReply) (terms : WatchTerms) → Shape (looked s q reply terms) s
looked_shape s q (Told seconds renewable date) terms = (length-set s.forest.entries q.entry _, refl)
looked_shape s q _ terms = (refl, refl)

forest_shape : (new mid old : WatchState) → new.forest ≡ mid.forest → Shape mid old → Shape new old
forest_shape new mid old is h = (ap (λ (g : Forest). length g.entries) is ∙ h.0, ap (λ (g : Forest). g.margin) is ∙ h.1)

answer_shape : (old mid new : WatchState) (q : Out) (reply : WatchReply) → new ≡ replied mid q reply → Shape mid old → Shape new old
answer_shape old mid new q reply is h = forest_shape new mid old (ap (λ (x : WatchState). x.forest) is ∙ replied_forest mid q reply) h

looked_shapes : (old new : WatchState) (found : Option Out) (reply : WatchReply) (terms : WatchTerms) (output : WatchOutput) → StepLooked old found reply terms output new → Shape new old
looked_shapes old new None reply terms output step = absurd step
looked_shapes old new (Some q) reply terms output step = answer_shape old (looked (noted old q reply) q reply terms) new q reply step.1 (looked_shape (noted old q reply) q reply terms)

renewed_shapes : (old new : WatchState) (found : Option Out) (reply : WatchReply) (output : WatchOutput) → StepRenewed old found reply output new → Shape new old
renewed_shapes old new None reply output step = absurd step
renewed_shapes old new (Some q) reply output step = answer_shape old (state_renewed (noted old q reply) q reply) new q reply step.1 (refl, refl)

step_shape : (old new : WatchState) (event : WatchEvent) (output : WatchOutput) → Step old event output new → Shape new old
step_shape old new (Clock wall elapsed) output step = forest_shape new old old (clock_forest old new wall elapsed output (ticks old new wall elapsed output step)) (refl, refl)
step_shape old new (Looked j reply terms) output step = looked_shapes old new (request_out old.out j Look) reply terms output step
step_shape old new (Renewed j reply) output step = renewed_shapes old new (request_out old.out j Renew) reply output step
step_shape old new (Need j until) output step = forest_shape new (with_need_until old j until) old (ap (λ (x : WatchState). x.forest) step.1) (length-set old.forest.entries j _, refl)
step_shape old new _ output step = forest_shape new old old (ap (λ (x : WatchState). x.forest) step.1) (refl, refl)

pub turn_shape : (old new : WatchState) (event : WatchEvent) (result : Result WatchOutput WatchFault) → Turn old event result new → Shape new old
turn_shape old new event (Ok output) turn = step_shape old new event output turn.1
turn_shape old new event (Err fault) turn = forest_shape new old old (ap (λ (x : WatchState). x.forest) (refused_stays old new event fault turn)) (refl, refl)

pub ran_shape : (turns : List Turned) (old : WatchState) → History old turns → Shape (after_all old turns) old
ran_shape [] old h = (refl, refl)
ran_shape (turn ∷ turns) old h =
    let here = turn_shape old turn.state turn.event turn.result h.0 in
    let rest = ran_shape turns turn.state h.1 in
    (rest.0 ∙ here.0, rest.1 ∙ here.1)
