-- A tick asks at once, or sleeps until one that asks, or leaves nothing to do.
use Rattle.std.proofs.Common.{ap, arith, subst}
use Rattle.tick_keeper.specs.State.{CoreState}
use Rattle.tick_keeper.proofs.Shaped.{both_shaped}
use Rattle.tick_runs.specs.code.Playing.{Ticks}
use Rattle.tick_runs.proofs.LiveTicks.{ticks_ready}
use Rattle.tick_runs.proofs.Opens.{after_sleep, at_once, ends, then_asks, ticks_shaped}
use Rattle.tick_runs.proofs.Refusing.{leaves_asked, leaves_closed, leaves_sleeping}
use Rattle.tick_runs.proofs.rehearse.waking.open.Goals as goal

pub unreachable-requires : goal.unreachable-requires
unreachable-requires c =
    let sleeps = subst (λ o. Ticks c.args.t c.args.agent.now.keeper o c.tick.new.agent.keeper c.args.text.now.items c.tick.new.text.items) c.in-Sleep.is c.in_ok-asked.ensures.ticks in
    let asks = then_asks c.args.t c.in-Sleep.later c.args.agent.now.keeper c.tick.new.agent.keeper c.tick-in-Sleep.new.agent.keeper c.in_ok-asked-in-Sleep.field-0 c.args.text.now.items c.tick.new.text.items c.tick-in-Sleep.new.text.items sleeps c.in_ok-asked-in-Sleep.ensures.ticks in
    c.in_default-2.not-Ask asks.0 asks.1

pub returns-in-Ask-clause-opens : goal.returns-in-Ask-clause-opens
returns-in-Ask-clause-opens c = λ cs behind.
    at_once cs behind c.args.t c.args.agent.now.keeper c.tick.new.agent.keeper c.in-Ask.asked c.args.text.now.items c.tick.new.text.items
    (subst (λ o. Ticks c.args.t c.args.agent.now.keeper o c.tick.new.agent.keeper c.args.text.now.items c.tick.new.text.items) c.in-Ask.is c.in_ok-asked.ensures.ticks)

pub returns-in-Ask-clause-shaped : goal.returns-in-Ask-clause-shaped
returns-in-Ask-clause-shaped c = ticks_shaped c.args.t c.args.agent.now.keeper c.tick.new.agent.keeper c.in_ok-asked.field-0 c.args.text.now.items c.tick.new.text.items c.in_ok-asked.ensures.ticks

pub returns-in-Ask-2-clause-opens : goal.returns-in-Ask-2-clause-opens
returns-in-Ask-2-clause-opens c = λ cs behind.
    let sleeps = subst (λ o. Ticks c.args.t c.args.agent.now.keeper o c.tick.new.agent.keeper c.args.text.now.items c.tick.new.text.items) c.in-Sleep.is c.in_ok-asked.ensures.ticks in
    let ticks = subst (λ o. Ticks c.in-Sleep.later c.tick.new.agent.keeper o c.tick-in-Sleep.new.agent.keeper c.tick.new.text.items c.tick-in-Sleep.new.text.items) c.in-Ask-2.is c.in_ok-asked-in-Sleep.ensures.ticks in
    after_sleep cs behind c.args.t c.in-Sleep.later c.args.agent.now.keeper c.tick.new.agent.keeper c.tick-in-Sleep.new.agent.keeper c.in-Ask-2.asked c.args.text.now.items c.tick.new.text.items c.tick-in-Sleep.new.text.items sleeps ticks

pub returns-in-Ask-2-clause-shaped : goal.returns-in-Ask-2-clause-shaped
returns-in-Ask-2-clause-shaped c =
    both_shaped c.args.agent.now.keeper.forest c.tick.new.agent.keeper.forest c.tick-in-Sleep.new.agent.keeper.forest
    (ticks_shaped c.args.t c.args.agent.now.keeper c.tick.new.agent.keeper c.in_ok-asked.field-0 c.args.text.now.items c.tick.new.text.items c.in_ok-asked.ensures.ticks)
    (ticks_shaped c.in-Sleep.later c.tick.new.agent.keeper c.tick-in-Sleep.new.agent.keeper c.in_ok-asked-in-Sleep.field-0 c.tick.new.text.items c.tick-in-Sleep.new.text.items c.in_ok-asked-in-Sleep.ensures.ticks)

pub returns-in-Ask-clause-leaves : goal.returns-in-Ask-clause-leaves
returns-in-Ask-clause-leaves c = leaves_asked c.args.t c.in_ok-asked.field-0 c.in-Ask.asked c.tick.new.agent.keeper c.in-Ask.is c.in_ok-asked.ensures.leaves

pub returns-in-Ask-2-clause-leaves : goal.returns-in-Ask-2-clause-leaves
returns-in-Ask-2-clause-leaves c = leaves_asked c.in-Sleep.later c.in_ok-asked-in-Sleep.field-0 c.in-Ask-2.asked c.tick-in-Sleep.new.agent.keeper c.in-Ask-2.is c.in_ok-asked-in-Sleep.ensures.leaves

pub tick-requires-in-Sleep-clause-ready : goal.tick-requires-in-Sleep-clause-ready
tick-requires-in-Sleep-clause-ready c =
    ticks_ready c.args.t c.args.agent.now.keeper c.tick.new.agent.keeper c.in_ok-asked.field-0 c.args.text.now.items c.tick.new.text.items c.in_ok-asked.ensures.ticks
    (leaves_sleeping c.args.t c.in_ok-asked.field-0 c.in-Sleep.later c.tick.new.agent.keeper c.in-Sleep.is c.in_ok-asked.ensures.leaves).0

pub tick-requires-in-Sleep-clause-comes : goal.tick-requires-in-Sleep-clause-comes
tick-requires-in-Sleep-clause-comes c = (leaves_sleeping c.args.t c.in_ok-asked.field-0 c.in-Sleep.later c.tick.new.agent.keeper c.in-Sleep.is c.in_ok-asked.ensures.leaves).1

pub returns-in_default : goal.returns-in_default
returns-in_default c = record {
  opens = λ cs behind. ends cs behind c.args.t c.args.agent.now.keeper c.tick.new.agent.keeper c.in_ok-asked.field-0 c.args.text.now.items c.tick.new.text.items c.in_ok-asked.ensures.ticks c.in_default.not-Sleep c.in_default.not-Ask;
  memory = tt;
  leaves = leaves_closed c.args.t c.in_ok-asked.field-0 c.tick.new.agent.keeper c.in_default.not-Ask c.in_default.not-Sleep c.in_ok-asked.ensures.leaves;
  few = omega arith;
  credentials = c.in_ok-asked.ensures.credentials;
  taken = ap (λ (s : CoreState). s.shortened) c.in_ok-asked.ensures.ticks.is;
  shaped = ticks_shaped c.args.t c.args.agent.now.keeper c.tick.new.agent.keeper c.in_ok-asked.field-0 c.args.text.now.items c.tick.new.text.items c.in_ok-asked.ensures.ticks;
}
