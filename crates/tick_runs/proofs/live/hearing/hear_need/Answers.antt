-- A new need and the needs that it shortens are of entries, and a need that is taken leaves the keeper ready.
use Rattle.std.proofs.Common.{◌≤◌, ap, ◌∙◌, length, sym, subst}
use Rattle.base_moment.specs.declared.moment.TheConstants.{LAST}
use Rattle.plan_forest.specs.Forest.{Forest}
use Rattle.tick_keeper.specs.{declared.event.Event.TheVariants.Need, State.CoreState}
use Rattle.tick_runs.proofs.{LiveTicks.need_stops, LiveTicks.ready_on, Refusing.need_fault, Refusing.needed_closed, Within.AreOf, Within.short_within}
use Rattle.tick_runs.proofs.live.hearing.hear_need.Goals as goal

pub push_short_lines-requires : goal.push_short_lines-requires
push_short_lines-requires c =
    let all = short_within c.args.agent.now.keeper c.step.new.self.keeper (Need c.args.i c.get.result) c.in-Ok.field-0 c.requires.ready.quiet c.in-Ok.ensures.turn in
    subst (λ n. AreOf n c.list.result.now) (sym (ap (λ (g : Forest). length g.entries) (c.forest.ensures ∙ ap (λ (s : CoreState). s.forest) c.take_shortened-short.ensures.after)))
    (subst (AreOf (length c.step.new.self.keeper.forest.entries)) (sym (c.list.ensures ∙ c.take_shortened-short.ensures.value)) all)

pub returns-clause-ready : goal.returns-clause-ready
returns-clause-ready c =
    ready_on c.step.new.self.keeper c.take_shortened-short.new.self.keeper c.take_shortened-short.ensures.after
    (ap (λ (s : CoreState). s.round) c.take_shortened-short.ensures.after ∙ needed_closed c.args.agent.now.keeper c.args.i c.get.result c.in-Ok.field-0 c.step.new.self.keeper c.requires.ready.closed c.in-Ok.ensures.turn)

pub stop_of-requires : goal.stop_of-requires
stop_of-requires c = need_fault c.args.agent.now.keeper c.args.i c.get.result c.in-Err.fault c.step.new.self.keeper c.requires.within (subst (λ n. n ≤ LAST) (sym c.get.ensures.value) (subst (λ n. n ≤ LAST) c.get.ensures.value c.get.ensures.within)) c.requires.ready.closed c.in-Err.ensures.turn

pub returns-in-Err-clause-stops : goal.returns-in-Err-clause-stops
returns-in-Err-clause-stops c =
    let is = need_fault c.args.agent.now.keeper c.args.i c.get.result c.in-Err.fault c.step.new.self.keeper c.requires.within (subst (λ n. n ≤ LAST) (sym c.get.ensures.value) (subst (λ n. n ≤ LAST) c.get.ensures.value c.get.ensures.within)) c.requires.ready.closed
    c.in-Err.ensures.turn in
    λ behind. need_stops c.args.agent.now.keeper c.step.new.self.keeper c.args.i c.get.result c.args.until c.in-Err.fault c.stop_of.result behind c.get.ensures.value is c.in-Err.ensures.turn c.stop_of.ensures
