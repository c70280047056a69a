-- Each turn leaves a plan in force: for the law of the plan in force.
use Rattle.std.proofs.Common.{◌≡◌, ℕ, [], ◌∷◌, Some, None, Result, Ok, Err, sym, ap, ◌∙◌, subst}
use Rattle.tick_keeper.specs.{declared.event.Event.Event, declared.event.Output.Output, declared.fault.StepFault.StepFault, InForce.InForce, InForce.InForceBetweenRounds, LawsOfHistories.InForceLaw, Replan.Replan, History.CoreTurn}
use Rattle.tick_keeper.specs.{State.CoreState, State.Round}
use Rattle.tick_keeper.specs.declared.event.Event.TheVariants.{Tick, Told, Refused, Lost, Need}
use Rattle.tick_keeper.specs.declared.fault.StepFault.TheVariants.{TooLong, OutOfMemory}
use Rattle.tick_keeper.specs.Step.{StepAnswer, StepNeed, StepTick}
use Rattle.tick_keeper.specs.declared.event.Output.TheVariants as out

pub replan_force : (old : CoreState) (t : ℕ) (new : CoreState) → Replan old t new → InForce new
replan_force old t new r = subst InForce (sym r.is) (r.best, r.few)

-- an open round asks for no plan in force
pub open_sound : (s : CoreState) (round : Round) → s.round ≡ Some round → InForceBetweenRounds s
open_sound s round is closed = absurd (let bad : Some round ≡ None = sym is ∙ closed in cc)

tick_sound : (old : CoreState) (t : ℕ) (output : Output) (new : CoreState) → StepTick old t output new → InForceBetweenRounds new
tick_sound old t out.Idle new step = λ closed. replan_force old t new step.0
tick_sound old t (out.Sleep w) new step = λ closed. replan_force old t new step.0
tick_sound old t (out.Ask asked) new step = open_sound new _ (ap (λ (s : CoreState). s.round) step.1.1.1.1.1)
tick_sound old t _ new step = absurd step

answer_sound : (old : CoreState) (event : Event) (output : Output) (new : CoreState) → StepAnswer old event output new → InForceBetweenRounds new
answer_sound old event out.Waiting new step = open_sound new _ (ap (λ (s : CoreState). s.round) step.1.1.1)
answer_sound old event (out.Round next) new step = λ closed. replan_force _ _ new step.1.1.1.0
answer_sound old event _ new step = absurd step

need_sound : (old : CoreState) (i until : ℕ) (output : Output) (new : CoreState) → StepNeed old i until output new → InForceBetweenRounds new
need_sound old i until out.Planned new step = λ closed. replan_force _ _ new step
need_sound old i until _ new step = absurd step

turn_sound : (old : CoreState) (event : Event) (result : Result Output StepFault) (new : CoreState) → InForceBetweenRounds old → CoreTurn old event result new → InForceBetweenRounds new
turn_sound old (Tick t) (Ok output) new sound turn = tick_sound old t output new turn.1
turn_sound old (Told i seconds renewable) (Ok output) new sound turn = answer_sound old (Told i seconds renewable) output new turn.1
turn_sound old (Refused i) (Ok output) new sound turn = answer_sound old (Refused i) output new turn.1
turn_sound old (Lost i) (Ok output) new sound turn = answer_sound old (Lost i) output new turn.1
turn_sound old (Need i until) (Ok output) new sound turn = need_sound old i until output new turn.1
turn_sound old event (Err TooLong) new sound turn = subst InForceBetweenRounds (sym turn.1.1) sound
turn_sound old event (Err OutOfMemory) new sound turn = subst InForceBetweenRounds (sym turn.1.1) sound
turn_sound old event (Err _) new sound turn = subst InForceBetweenRounds (sym turn.1) sound

pub in_force : InForceLaw
in_force old new [] [] sound history = subst InForceBetweenRounds (sym history) sound
in_force old new (event ∷ events) (result ∷ results) sound history = in_force history.0 new events results (turn_sound old event result history.0 sound history.1.0) history.1.1
in_force old new _ _ sound history = absurd history
