-- The shortened needs of a tick are of the forest, and only lack of memory refuses one.
use Rattle.std.proofs.Common.{ap, ◌∙◌, ◌≤◌, Err, Ok, arith, length, sym, subst}
use Rattle.plan_forest.specs.Forest.{Forest}
use Rattle.tick_keeper.specs.{State.CoreState, States.IsState, declared.event.Event.TheVariants.Tick}
use Rattle.tick_keeper.proofs.Shaped.{shape}
use Rattle.tick_runs.proofs.Refusing.{taken_stop, tick_leaves, tick_taken}
use Rattle.tick_runs.proofs.Within.{AreOf, short_within, asked_few}
use Rattle.tick_runs.proofs.agent.ticking.tick.Goals as goal

pub push_short_lines-requires : goal.push_short_lines-requires
push_short_lines-requires c =
    let all = short_within c.args.agent.now.keeper c.step.new.self.keeper (Tick c.args.t) c.in-Ok.output c.requires.ready.quiet c.in-Ok.ensures.turn in
    subst (λ n. AreOf n c.list.result.now) (sym (ap (λ g. length g.entries) (c.forest-2.ensures ∙ ap (λ (s : CoreState). s.forest) c.take_shortened-short.ensures.after)))
    (subst (AreOf (length c.step.new.self.keeper.forest.entries)) (sym (c.list.ensures ∙ c.take_shortened-short.ensures.value)) all)

pub stop_of-requires : goal.stop_of-requires
stop_of-requires c =
    (taken_stop c.in-Err.fault (tick_taken c.args.agent.now.keeper c.args.t c.requires.ready.closed c.requires.comes (Err c.in-Err.fault) c.step.new.self.keeper c.in-Err.ensures.turn)).0

pub returns-in-Err-clause-memory : goal.returns-in-Err-clause-memory
returns-in-Err-clause-memory c =
    c.stop_of.ensures ∙ (taken_stop c.in-Err.fault (tick_taken c.args.agent.now.keeper c.args.t c.requires.ready.closed c.requires.comes (Err c.in-Err.fault) c.step.new.self.keeper c.in-Err.ensures.turn)).1

pub returns-clause-leaves : goal.returns-clause-leaves
returns-clause-leaves c =
    tick_leaves c.args.agent.now.keeper c.step.new.self.keeper c.take_shortened-short.new.self.keeper c.args.t c.in-Ok.output c.requires.ready.closed (subst IsState c.keeper.ensures.value c.open_round-round.ensures.state) c.in-Ok.ensures.turn c.take_shortened-short.ensures.after

pub returns-clause-few : goal.returns-clause-few
returns-clause-few c =
    let asked = asked_few c.args.agent.now.keeper c.step.new.self.keeper c.args.t c.in-Ok.output c.in-Ok.ensures.turn in
    let like = shape c.args.agent.now.keeper c.step.new.self.keeper (Tick c.args.t) (Ok c.in-Ok.output) c.in-Ok.ensures.turn in
    let count = like.count in
    let few : length c.args.agent.now.keeper.forest.entries ≤ 4096 = subst (λ (g : Forest). length g.entries ≤ 4096) c.forest.ensures c.len-entries.ensures.sound.few in
    omega arith
