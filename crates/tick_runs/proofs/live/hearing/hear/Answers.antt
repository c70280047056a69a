-- The lines of a need, or of an unknown name, are sent at once.
use Rattle.std.proofs.Common.{refl, subst}
use Rattle.base_device.specs.Seen.{Change, change}
use Rattle.program_report.specs.Sent.{SendsText}
use Rattle.tick_runs.specs.{Hearing.HearsTo, Stops.both}
use Rattle.program_lines.proofs.LineByLine.{handed_on}
use Rattle.tick_runs.proofs.SentTicks.{need_halts, need_sent, unknown_sent}
use Rattle.tick_runs.proofs.live.hearing.hear.Goals as goal

pub returns-in_err-hear_need-in-Need-clause-hears : goal.returns-in_err-hear_need-in-Need-clause-hears
returns-in_err-hear_need-in-Need-clause-hears g c =
    let o = g.E.Exchange.behind c.args.exchange.now in
    let out : Change = change g.W.Device.is_in_memory (g.W.Device.seen c.args.out.now) (g.W.Device.seen c.args.out.now) in
    handed_on c.from_residual.result c.in_err-hear_need-in-Need.field-0.0 (λ r. HearsTo (g.E.Exchange.host_port c.args.exchange.now) c.args.agent.now.credentials (both c.args.agent.now.keeper o) c.args.heard r (both c.hear_need.new.agent.keeper o) out) c.from_residual.ensures
    (need_halts (g.E.Exchange.host_port c.args.exchange.now) c.args.agent.now.credentials o c.args.agent.now.keeper c.hear_need.new.agent.keeper c.in-Need.i c.in-Need.until c.args.heard c.in_err-hear_need-in-Need.field-0.0 out c.in-Need.is refl (c.in_err-hear_need-in-Need.ensures.stops o))

pub returns-in_ok-hear_need-in-Need-clause-hears : goal.returns-in_ok-hear_need-in-Need-clause-hears
returns-in_ok-hear_need-in-Need-clause-hears g c =
    let out : Change = change g.W.Device.is_in_memory (g.W.Device.seen c.args.out.now) (g.W.Device.seen c.send.new.out) in
    need_sent (g.E.Exchange.host_port c.args.exchange.now) c.args.agent.now.credentials (g.E.Exchange.behind c.args.exchange.now) c.args.agent.now.keeper c.hear_need.new.agent.keeper c.in-Need.i c.in-Need.until c.args.heard c.new-text.result.items c.hear_need.new.text.items
    c.send.result out c.in-Need.is c.new-text.ensures.items (c.in_ok-hear_need-in-Need.ensures.needed (g.E.Exchange.behind c.args.exchange.now)) (subst (λ l. SendsText c.send.result l out) c.deref.ensures.value c.send.ensures.sent) c.requires.flushed

pub returns-in-Unknown-clause-hears : goal.returns-in-Unknown-clause-hears
returns-in-Unknown-clause-hears g c =
    let out : Change = change g.W.Device.is_in_memory (g.W.Device.seen c.args.out.now) (g.W.Device.seen c.send-in-Unknown.new.out) in
    unknown_sent (g.E.Exchange.host_port c.args.exchange.now) c.args.agent.now.credentials (g.E.Exchange.behind c.args.exchange.now) c.args.agent.now.keeper c.args.heard c.send-in-Unknown.result out c.in-Unknown.is c.send-in-Unknown.ensures.sent c.requires.flushed
