-- What a tick comes to: a line that tells it late; a round, after the lines that say so; or lines that ask nobody.
use Rattle.std.proofs.Common.{◌<◌, ◌≡◌, ◌++◌, ◌∙◌, Ok, Err, ap, arith, subst, refl}
use Rattle.base_device.specs.Seen.{Change, change}
use Rattle.tick_keeper.specs.declared.event.Output.TheVariants as out
use Rattle.tick_keeper.specs.State.{CoreState}
use Rattle.program_report.specs.declared.stop.Stop.TheVariants as stops
use Rattle.program_report.specs.Sent.{IsAll, SendsText}
use Rattle.tick_runs.specs.{code.Telling.IsSentWhole, code.Telling.TellsRound, Hearing.HearsTo, Hearing.next_tick_line, Stops.both}
use Rattle.program_lines.specs.declared.event_line.HeardLine.TheVariants as heards
use Rattle.program_lines.specs.Hearing.{joined_changes}
use Rattle.program_lines.proofs.LineByLine.{handed_on}
use Rattle.tick_runs.proofs.Refusing.{leaves_closed, leaves_sleeping}
use Rattle.tick_runs.proofs.LiveTicks.{on_ok, only_idle, round_as, ticks_as, ticks_ready}
use Rattle.tick_runs.proofs.SentTicks.{late_sent, quiet_sent, round_memory, round_sent, round_stops, stops_at_first}
use Rattle.tick_runs.proofs.live.hearing.hear_tick.Goals as goal

pub returns-then-get-clause-hears : goal.returns-then-get-clause-hears
returns-then-get-clause-hears g c =
    let late : c.args.t < c.args.agent.now.keeper.last =
    (let h = c.if-get.true in let a = c.get.ensures.value in let b = c.get-2.ensures.value in let n = c.now.ensures ∙ ap (λ (s : CoreState). s.last) c.keeper.ensures.value in omega arith) in
    late_sent (g.E.Exchange.host_port c.args.exchange.now) c.args.agent.now.credentials (g.E.Exchange.behind c.args.exchange.now) c.args.t c.args.agent.now.keeper c.send.result _ late c.send.ensures.sent c.requires.flushed

pub returns-in_err-send-in-Ask-clause-hears : goal.returns-in_err-send-in-Ask-clause-hears
returns-in_err-send-in-Ask-clause-hears g c =
    let port = g.E.Exchange.host_port c.args.exchange.now in
    let cs = c.args.agent.now.credentials in
    let o = g.E.Exchange.behind c.args.exchange.now in
    let w : Change = change g.W.Device.is_in_memory (g.W.Device.seen c.args.out.now) (g.W.Device.seen c.send-in-Ask.new.out) in
    let ticks = ticks_as c.get-3.result c.args.t c.args.agent.now.keeper c.tick.new.agent.keeper c.in_ok-asked.field-0 (out.Ask c.in-Ask.asked) c.new-text.result.items c.tick.new.text.items c.get-3.ensures.value c.in-Ask.is
    c.new-text.ensures.items c.in_ok-asked.ensures.ticks in
    handed_on c.from_residual-in_err-send-in-Ask.result c.in_err-send-in-Ask.field-0.0 (λ r. HearsTo port cs (both c.args.agent.now.keeper o) (heards.Tick c.args.t) r (both c.tick.new.agent.keeper o) w) c.from_residual-in_err-send-in-Ask.ensures
    (stops_at_first port cs c.args.t o c.args.agent.now.keeper c.tick.new.agent.keeper c.in-Ask.asked c.tick.new.text.items ticks c.in_err-send-in-Ask.field-0.0 w c.requires.flushed
    (subst (λ l. SendsText (Err c.in_err-send-in-Ask.field-0.0) l w) c.deref.ensures.value c.in_err-send-in-Ask.ensures.sent))

pub returns-in_err-next-in-Ask-clause-hears : goal.returns-in_err-next-in-Ask-clause-hears
returns-in_err-next-in-Ask-clause-hears g c =
    let port = g.E.Exchange.host_port c.args.exchange.now in
    let cs = c.args.agent.now.credentials in
    let o = g.E.Exchange.behind c.args.exchange.now in
    let n = g.E.Exchange.behind c.tell_round.new.exchange in
    let w : Change = change g.W.Device.is_in_memory (g.W.Device.seen c.args.out.now) (g.W.Device.seen c.send-in-Ask.new.out) in
    let r : Change = change g.W.Device.is_in_memory (g.W.Device.seen c.send-in-Ask.new.out) (g.W.Device.seen c.tell_round.new.out) in
    let ticks = ticks_as c.get-3.result c.args.t c.args.agent.now.keeper c.tick.new.agent.keeper c.in_ok-asked.field-0 (out.Ask c.in-Ask.asked) c.new-text.result.items c.tick.new.text.items c.get-3.ensures.value c.in-Ask.is
    c.new-text.ensures.items c.in_ok-asked.ensures.ticks in
    let before : IsSentWhole c.tick.new.text.items w = (subst (λ l. IsAll l w) c.deref.ensures.value c.in_ok-send-in-Ask.ensures.sent, c.in_ok-send-in-Ask.ensures.count) in
    handed_on c.from_residual-in_err-next-in-Ask.result c.in_err-next-in-Ask.field-0.0 (λ q. HearsTo port cs (both c.args.agent.now.keeper o) (heards.Tick c.args.t) q (both c.tell_round.new.agent.keeper n) (joined_changes w r)) c.from_residual-in_err-next-in-Ask.ensures
    (round_stops port cs c.args.t o n c.args.agent.now.keeper c.tick.new.agent.keeper c.tell_round.new.agent.keeper c.in-Ask.asked c.tick.new.text.items ticks w r refl before c.in_err-next-in-Ask.field-0.0
    (round_as port cs c.args.t (both c.tick.new.agent.keeper o) (both c.tell_round.new.agent.keeper n) c.list-asked.result.now c.in-Ask.asked (Err c.in_err-next-in-Ask.field-0.0) r c.list-asked.ensures
    (subst (λ ks. TellsRound port ks c.args.t (both c.tick.new.agent.keeper o) c.list-asked.result.now (Err c.in_err-next-in-Ask.field-0.0) (both c.tell_round.new.agent.keeper n) r) c.in_ok-asked.ensures.credentials c.in_err-next-in-Ask.ensures.tells)))

pub returns-in_err-push_next-in-Ask-clause-hears : goal.returns-in_err-push_next-in-Ask-clause-hears
returns-in_err-push_next-in-Ask-clause-hears g c =
    let port = g.E.Exchange.host_port c.args.exchange.now in
    let cs = c.args.agent.now.credentials in
    let o = g.E.Exchange.behind c.args.exchange.now in
    let n = g.E.Exchange.behind c.tell_round.new.exchange in
    let w : Change = change g.W.Device.is_in_memory (g.W.Device.seen c.args.out.now) (g.W.Device.seen c.send-in-Ask.new.out) in
    let r : Change = change g.W.Device.is_in_memory (g.W.Device.seen c.send-in-Ask.new.out) (g.W.Device.seen c.tell_round.new.out) in
    let ticks = ticks_as c.get-3.result c.args.t c.args.agent.now.keeper c.tick.new.agent.keeper c.in_ok-asked.field-0 (out.Ask c.in-Ask.asked) c.new-text.result.items c.tick.new.text.items c.get-3.ensures.value c.in-Ask.is
    c.new-text.ensures.items c.in_ok-asked.ensures.ticks in
    let before : IsSentWhole c.tick.new.text.items w = (subst (λ l. IsAll l w) c.deref.ensures.value c.in_ok-send-in-Ask.ensures.sent, c.in_ok-send-in-Ask.ensures.count) in
    handed_on c.from_residual-in_err-push_next-in-Ask.result stops.Memory (λ q. HearsTo port cs (both c.args.agent.now.keeper o) (heards.Tick c.args.t) q (both c.tell_round.new.agent.keeper n) (joined_changes w r)) c.from_residual-in_err-push_next-in-Ask.ensures
    (round_memory port cs c.args.t o n c.args.agent.now.keeper c.tick.new.agent.keeper c.tell_round.new.agent.keeper c.in-Ask.asked c.tick.new.text.items ticks w r refl before c.in_ok-next-in-Ask.next
    (round_as port cs c.args.t (both c.tick.new.agent.keeper o) (both c.tell_round.new.agent.keeper n) c.list-asked.result.now c.in-Ask.asked (Ok c.in_ok-next-in-Ask.next) r c.list-asked.ensures
    (subst (λ ks. TellsRound port ks c.args.t (both c.tick.new.agent.keeper o) c.list-asked.result.now (Ok c.in_ok-next-in-Ask.next) (both c.tell_round.new.agent.keeper n) r) c.in_ok-asked.ensures.credentials c.in_ok-next-in-Ask.ensures.tells)))

pub returns-in-Ask-clause-hears : goal.returns-in-Ask-clause-hears
returns-in-Ask-clause-hears g c =
    let port = g.E.Exchange.host_port c.args.exchange.now in
    let cs = c.args.agent.now.credentials in
    let o = g.E.Exchange.behind c.args.exchange.now in
    let n = g.E.Exchange.behind c.tell_round.new.exchange in
    let w : Change = change g.W.Device.is_in_memory (g.W.Device.seen c.args.out.now) (g.W.Device.seen c.send-in-Ask.new.out) in
    let r : Change = change g.W.Device.is_in_memory (g.W.Device.seen c.send-in-Ask.new.out) (g.W.Device.seen c.tell_round.new.out) in
    let l : Change = change g.W.Device.is_in_memory (g.W.Device.seen c.tell_round.new.out) (g.W.Device.seen c.send-in-Ask-2.new.out) in
    let ticks = ticks_as c.get-3.result c.args.t c.args.agent.now.keeper c.tick.new.agent.keeper c.in_ok-asked.field-0 (out.Ask c.in-Ask.asked) c.new-text.result.items c.tick.new.text.items c.get-3.ensures.value c.in-Ask.is
    c.new-text.ensures.items c.in_ok-asked.ensures.ticks in
    let before : IsSentWhole c.tick.new.text.items w = (subst (λ l. IsAll l w) c.deref.ensures.value c.in_ok-send-in-Ask.ensures.sent, c.in_ok-send-in-Ask.ensures.count) in
    let last : c.push_next.new.text.items ≡ next_tick_line c.in_ok-next-in-Ask.next = c.in_ok-push_next-in-Ask.ensures ∙ ap (λ x. x ++ next_tick_line c.in_ok-next-in-Ask.next) c.new-last.ensures.items in
    round_sent port cs c.args.t o n c.args.agent.now.keeper c.tick.new.agent.keeper c.tell_round.new.agent.keeper c.in-Ask.asked c.tick.new.text.items ticks w r refl before c.in_ok-next-in-Ask.next c.push_next.new.text.items c.send-in-Ask-2.result l refl
    last (round_as port cs c.args.t (both c.tick.new.agent.keeper o) (both c.tell_round.new.agent.keeper n) c.list-asked.result.now c.in-Ask.asked (Ok c.in_ok-next-in-Ask.next) r c.list-asked.ensures
    (subst (λ ks. TellsRound port ks c.args.t (both c.tick.new.agent.keeper o) c.list-asked.result.now (Ok c.in_ok-next-in-Ask.next) (both c.tell_round.new.agent.keeper n) r) c.in_ok-asked.ensures.credentials c.in_ok-next-in-Ask.ensures.tells))
    (subst (λ x. SendsText c.send-in-Ask-2.result x l) c.deref-in-Ask.ensures.value c.send-in-Ask-2.ensures.sent)

pub returns-in-Sleep-clause-hears : goal.returns-in-Sleep-clause-hears
returns-in-Sleep-clause-hears g c =
    let w : Change = change g.W.Device.is_in_memory (g.W.Device.seen c.args.out.now) (g.W.Device.seen c.send-in-Sleep.new.out) in
    let ticks = ticks_as c.get-3.result c.args.t c.args.agent.now.keeper c.tick.new.agent.keeper c.in_ok-asked.field-0 (out.Sleep c.in-Sleep.later) c.new-text.result.items c.tick.new.text.items c.get-3.ensures.value c.in-Sleep.is
    c.new-text.ensures.items c.in_ok-asked.ensures.ticks in
    quiet_sent (g.E.Exchange.host_port c.args.exchange.now) c.args.agent.now.credentials (g.E.Exchange.behind c.args.exchange.now) c.args.t c.args.agent.now.keeper c.tick.new.agent.keeper (out.Sleep c.in-Sleep.later) c.tick.new.text.items c.push_sleep.new.text.items c.send-in-Sleep.result w ticks
    refl refl c.in_ok-push_sleep-in-Sleep.ensures (subst (λ x. SendsText c.send-in-Sleep.result x w) c.deref-in-Sleep.ensures.value c.send-in-Sleep.ensures.sent) c.requires.flushed

pub returns-in-Sleep-clause-ready : goal.returns-in-Sleep-clause-ready
returns-in-Sleep-clause-ready g c =
    on_ok c.send-in-Sleep.result
    (ticks_ready c.get-3.result c.args.agent.now.keeper c.tick.new.agent.keeper c.in_ok-asked.field-0 c.new-text.result.items c.tick.new.text.items c.in_ok-asked.ensures.ticks
    (leaves_sleeping c.get-3.result c.in_ok-asked.field-0 c.in-Sleep.later c.tick.new.agent.keeper c.in-Sleep.is c.in_ok-asked.ensures.leaves).0)

pub returns : goal.returns
returns g c =
    let w : Change = change g.W.Device.is_in_memory (g.W.Device.seen c.args.out.now) (g.W.Device.seen c.send-in_default.new.out) in
    let first = c.in_ok-asked.ensures.ticks in
    let idle = only_idle c.get-3.result c.args.agent.now.keeper first.keeper c.in_ok-asked.field-0 first.turn c.in_default.not-Ask c.in_default.not-Sleep in
    let ticks = ticks_as c.get-3.result c.args.t c.args.agent.now.keeper c.tick.new.agent.keeper c.in_ok-asked.field-0 out.Idle c.new-text.result.items c.tick.new.text.items c.get-3.ensures.value idle c.new-text.ensures.items first in
    record {
      hears = quiet_sent (g.E.Exchange.host_port c.args.exchange.now) c.args.agent.now.credentials (g.E.Exchange.behind c.args.exchange.now) c.args.t c.args.agent.now.keeper c.tick.new.agent.keeper out.Idle c.tick.new.text.items c.extend_from_slice.new.self.items c.send-in_default.result w ticks
          refl refl c.in_ok-extend_from_slice-in_default.ensures.items (subst (λ x. SendsText c.send-in_default.result x w) c.deref-in_default.ensures.value c.send-in_default.ensures.sent) c.requires.flushed;
      count = c.send-in_default.ensures.count;
      credentials = c.in_ok-asked.ensures.credentials;
      port = refl;
      ready = on_ok c.send-in_default.result
          (ticks_ready c.get-3.result c.args.agent.now.keeper c.tick.new.agent.keeper c.in_ok-asked.field-0 c.new-text.result.items c.tick.new.text.items first
          (leaves_closed c.get-3.result c.in_ok-asked.field-0 c.tick.new.agent.keeper c.in_default.not-Ask c.in_default.not-Sleep c.in_ok-asked.ensures.leaves));
    }
