-- The round that a tick opens can be played, and where nobody is asked any more the run ends.
use Rattle.std.specs.Prelude.{◌≢◌}
use Rattle.std.proofs.Common.{◌≡◌, ap, ◌++◌, List, [], ℕ, Some, length, sym, subst, true, false}
use Rattle.tick_runs.specs.{Stops.both, Text.inventory_with}
use Rattle.tick_runs.specs.code.Playing.{AnswersAll, LeavesOpen, OpensOrEnds, RoundWaits, RunGoes}
use Rattle.tick_keeper.specs.declared.event.Output.TheVariants as out
use Rattle.tick_runs.proofs.{Goes.ends_go, Goes.round_goes_on, Within.told_in_range}
use Rattle.tick_runs.proofs.rehearse.waking.wake.Goals as goal

pub unreachable-requires : goal.unreachable-requires
unreachable-requires c =
    let opens = subst (λ o. OpensOrEnds c.args.agent.now.credentials (Some c.args.exchange.now) c.args.agent.now.keeper c.args.due o c.open.new.agent.keeper c.args.text.now.items c.open.new.text.items) c.in-Some.is (c.in_ok-opened.ensures.opens c.args.agent.now.credentials (Some c.args.exchange.now)) in
    let late = told_in_range opens.mid opens.ticks.keeper c.in-Some.opened.at (out.Ask c.in-Some.opened.asked) opens.ticks.turn in
    let bad : false ≡ true = c.in_default-new.ensures.within.1 late in
    cc

pub returns-in_default-clause-wakes : goal.returns-in_default-clause-wakes
returns-in_default-clause-wakes c =
    let opens = subst (λ o. OpensOrEnds c.args.agent.now.credentials (Some c.args.exchange.now) c.args.agent.now.keeper c.args.due o c.open.new.agent.keeper c.args.text.now.items c.open.new.text.items) c.in_default.is (c.in_ok-opened.ensures.opens c.args.agent.now.credentials (Some c.args.exchange.now)) in
    ends_go c.args.agent.now.credentials (Some c.args.exchange.now) c.args.agent.now.keeper c.open.new.agent.keeper c.args.due c.args.text.now.items c.open.new.text.items opens

pub returns-clause-wakes : goal.returns-clause-wakes
returns-clause-wakes c =
    let cs = c.args.agent.now.credentials in
    let opens = subst (λ o. OpensOrEnds cs (Some c.args.exchange.now) c.args.agent.now.keeper c.args.due o c.open.new.agent.keeper c.args.text.now.items c.open.new.text.items) c.in-Some.is (c.in_ok-opened.ensures.opens cs (Some c.args.exchange.now)) in
    let at : c.in-Some-new.at ≡ c.in-Some.opened.at = c.in-Some-new.ensures.value in
    let answers = subst (λ t. AnswersAll 8200 cs t (both c.open.new.agent.keeper (Some c.args.exchange.now)) c.in-Some.opened.asked c.in_ok-next.next (both c.round.new.agent.keeper (Some c.round.new.exchange)) c.open.new.text.items c.round.new.text.items) at
    (subst (λ is. AnswersAll 8200 cs c.in-Some-new.at (both c.open.new.agent.keeper (Some c.args.exchange.now)) is c.in_ok-next.next (both c.round.new.agent.keeper (Some c.round.new.exchange)) c.open.new.text.items c.round.new.text.items) c.list.ensures
    (subst (λ ks. AnswersAll 8200 ks c.in-Some-new.at (both c.open.new.agent.keeper (Some c.args.exchange.now)) c.list.result.now c.in_ok-next.next (both c.round.new.agent.keeper (Some c.round.new.exchange)) c.open.new.text.items c.round.new.text.items)
    c.in_ok-opened.ensures.credentials c.in_ok-next.ensures.answers)) in
    let goes = round_goes_on cs (Some c.args.exchange.now) c.args.agent.now.keeper c.open.new.agent.keeper (both c.round.new.agent.keeper (Some c.round.new.exchange)) c.args.due c.in-Some.opened.at c.in-Some.opened.asked c.args.text.now.items c.open.new.text.items c.round.new.text.items
    c.in_ok-next.next c.in_ok-opened.ensures.shaped opens answers in
    subst (λ n. (text : List ℕ) × (RunGoes (inventory_with cs c.args.agent.now.keeper.forest) (both c.args.agent.now.keeper (Some c.args.exchange.now)) (Some c.args.due) (both c.round.new.agent.keeper (Some c.round.new.exchange)) c.in_ok-next.next 1 n text × (c.round.new.text.items ≡ c.args.text.now.items ++ text)))
    (ap length (sym c.list-2.ensures)) goes

pub round-requires-clause-waits : goal.round-requires-clause-waits
round-requires-clause-waits c =
    let leaves = subst (λ o. LeavesOpen o c.open.new.agent.keeper) c.in-Some.is c.in_ok-opened.ensures.leaves in
    subst (λ t. RoundWaits c.open.new.agent.keeper t c.list.result.now) (sym c.in-Some-new.ensures.value) (subst (RoundWaits c.open.new.agent.keeper c.in-Some.opened.at) (sym c.list.ensures) leaves.0)

pub round-requires-clause-some : goal.round-requires-clause-some
round-requires-clause-some c =
    let leaves = subst (λ o. LeavesOpen o c.open.new.agent.keeper) c.in-Some.is c.in_ok-opened.ensures.leaves in
    subst (λ asked. asked ≢ []) (sym c.list.ensures) leaves.1

pub returns-in_default-clause-ready : goal.returns-in_default-clause-ready
returns-in_default-clause-ready c = record {
  quiet = c.in_ok-opened.ensures.taken;
  closed = subst (λ o. LeavesOpen o c.open.new.agent.keeper) c.in_default.is c.in_ok-opened.ensures.leaves;
}
