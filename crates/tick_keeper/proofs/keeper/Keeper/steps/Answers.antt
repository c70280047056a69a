-- One event more makes the history a turn longer, and its result has its room.
use Rattle.std.proofs.Common.{◌+◌, ◌<◌, ◌++◌, List, [], ◌∷◌, Result, arith, length, subst, sym, take}
use Rattle.std.proofs.lemmas.List.{take_more}
use Rattle.tick_keeper.specs.{declared.event.Event.Event, declared.event.Output.Output, declared.fault.StepFault.StepFault, History.CoreHistory}
use Rattle.tick_keeper.proofs.Stepping.{history_more}
use Rattle.tick_keeper.proofs.keeper.Keeper.steps.Goals as goal

pub loop-event-preserved : goal.loop-event-preserved
loop-event-preserved c =
    let events = c.args.events.now in
    let old = c.args.self.now in
    let k = c.loop-event.event-index in
    let within : k < length events = omega arith in
    let history = history_more old c.loop-event.self c.step.new.self (take k events) _ c.loop-event.results.items c.step.result c.loop-event.invariant.0 c.step.ensures in
    let len = c.loop-event.invariant.1 in
    let room = c.loop-event.invariant.2 in (
      subst (λ (rs : List (Result Output StepFault)). CoreHistory old (take (k + 1) events) rs c.step.new.self) (sym c.push_reserved.ensures.items)
          (subst (λ (es : List Event). CoreHistory old es (c.loop-event.results.items ++ c.step.result ∷ []) c.step.new.self) (sym (take_more events k _ within)) history),
      omega (arith, c.push_reserved.ensures.len),
      omega (arith, c.push_reserved.ensures.capacity),
    )
