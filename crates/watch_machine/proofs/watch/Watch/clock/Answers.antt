-- A clock at which nothing is to be done is a step of the definitions, and so is one at which all entries are gone through.
use Rattle.std.proofs.Common.{subst, sym}
use Rattle.watch_machine.specs.{declared.command.WatchOutput.WatchOutput, State.WatchState, Step.StepClock, code.Line.IsRoundClock, code.Line.IsServed, code.Lull.quieted}
use Rattle.watch_machine.proofs.{Cases.ok_map, QuietClock.quiet_step, RoundClock.round_step}
use Rattle.watch_machine.proofs.watch.Watch.clock.Goals as goal

pub returns-in-Some-clause-step : goal.returns-in-Some-clause-step
returns-in-Some-clause-step c =
    let s = c.args.self.now in
    let t = c.timed-timed.result in
    let wall = c.args.wall in
    let elapsed = c.args.elapsed in
    subst (λ (n : WatchState). StepClock s wall elapsed c.quiet_clock.result n) (sym c.quiet_clock.ensures.state)
    (subst (λ (o : WatchOutput). StepClock s wall elapsed o (quieted s t.clocks t.stepped)) (sym c.quiet_clock.ensures.output)
    (quiet_step s wall elapsed t.clocks t.stepped t.jumped c.in-Some.until c.timed-timed.ensures.clocks c.timed-timed.ensures.stepped c.timed-timed.ensures.jumped c.in-Some.ensures))

pub returns-in-Some-round_until-clause-step : goal.returns-in-Some-round_until-clause-step
returns-in-Some-round_until-clause-step c =
    let s = c.args.self.now in
    let t = c.timed-timed.result in
    let wall = c.args.wall in
    let elapsed = c.args.elapsed in
    let line = c.take_line-line.result in
    let same = c.take_line-line.ensures.unchanged in
    let until = c.in-Some-round_until.until in
    let new = c.line_clock.new.self in
    let round = subst (λ (n : WatchState). IsRoundClock n line t.clocks t.stepped t.jumped until) same c.in-Some-round_until.ensures in
    ok_map (λ output. IsServed c.take_line-line.new.self line t.clocks t.stepped until output new) (λ output. StepClock s wall elapsed output new)
    (λ output done.
    round_step s wall elapsed line t.clocks t.stepped t.jumped until output new c.timed-timed.ensures.clocks c.timed-timed.ensures.stepped c.timed-timed.ensures.jumped round
    (subst (λ (n : WatchState). IsServed n line t.clocks t.stepped until output new) same done))
    c.line_clock.result c.line_clock.ensures.served
