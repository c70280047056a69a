-- Each answer is told after those before it.
use Rattle.std.proofs.Common.{[], Err, Ok, ◌+◌, ◌∙◌, ap, drop, get_or, refl, sym, subst}
use Rattle.std.proofs.KnownBytes.{Appends-nil}
use Rattle.base_device.specs.Seen.{Change, change}
use Rattle.tick_keeper.proofs.Shaped.{both_shaped, same}
use Rattle.tick_runs.specs.{Stops.both, code.Telling.TellsOne, code.Telling.TellsRound}
use Rattle.tick_runs.proofs.{Agents.as_begun, Rounds.none_answered, ToldRounds.stopped_on, ToldRounds.told_more}
use Rattle.tick_runs.proofs.Refusing.{Stands, hears_leads, hears_shaped, stands_first, stands_now}
use Rattle.program_lines.specs.Hearing.{joined_changes}
use Rattle.program_lines.proofs.LineByLine.{handed_on}
use Rattle.tick_runs.proofs.live.telling.tell_round.Goals as goal

pub loop-i-init : goal.loop-i-init
loop-i-init g c = record {
  told = (
    [],
    (
      none_answered (g.E.Exchange.host_port c.args.exchange.now) c.args.agent.now.credentials c.args.t (both c.args.agent.now.keeper (g.E.Exchange.behind c.args.exchange.now)) [],
      ((Appends-nil (g.W.Device.seen c.args.out.now).output.written, c.requires.flushed), refl),
    ),
  );
  shaped = same c.args.agent.now.keeper.forest;
  credentials = refl;
  port = refl;
  quiet = c.requires.quiet;
  stands = stands_first c.args.t c.args.asked.now _ c.args.agent.now.keeper c.requires.waits c.requires.some;
}

pub returns-in_err-output-clause-tells : goal.returns-in_err-output-clause-tells
returns-in_err-output-clause-tells g c =
    let port = g.E.Exchange.host_port c.args.exchange.now in
    let cs = c.args.agent.now.credentials in
    let o = g.E.Exchange.behind c.args.exchange.now in
    let mid = g.E.Exchange.behind c.loop-i.exchange in
    let new = g.E.Exchange.behind c.tell_answer.new.exchange in
    let a : Change = change g.W.Device.is_in_memory (g.W.Device.seen c.args.out.now) (g.W.Device.seen c.loop-i.out) in
    let b : Change = change g.W.Device.is_in_memory (g.W.Device.seen c.loop-i.out) (g.W.Device.seen c.tell_answer.new.out) in
    handed_on c.from_residual.result c.in_err-output.field-0.0 (λ r. TellsRound port cs c.args.t (both c.args.agent.now.keeper o) c.args.asked.now r (both c.tell_answer.new.agent.keeper new) (joined_changes a b)) c.from_residual.ensures
    (stopped_on port cs c.args.t o mid c.args.agent.now.keeper c.loop-i.agent.keeper c.args.asked.now c.loop-i.i-index c.loop-i.next a b refl c.loop-i-test.true c.loop-i.invariant.shaped c.in_err-output.field-0.0 new
    c.tell_answer.new.agent.keeper c.loop-i.invariant.told
    (as_begun c.loop-i.invariant.port c.loop-i.invariant.credentials (λ p ks. TellsOne p ks c.args.t (both c.loop-i.agent.keeper mid) (get_or c.args.asked.now c.loop-i.i-index 0) (Err c.in_err-output.field-0.0) (both c.tell_answer.new.agent.keeper new) b) c.in_err-output.ensures.tells))

pub loop-i-preserved : goal.loop-i-preserved
loop-i-preserved g c =
    let o = g.E.Exchange.behind c.args.exchange.now in
    let mid = g.E.Exchange.behind c.loop-i.exchange in
    let new = g.E.Exchange.behind c.tell_answer.new.exchange in
    let asked = c.args.asked.now in
    let k = c.loop-i.i-index in
    let start = c.args.agent.now.keeper in
    let a : Change = change g.W.Device.is_in_memory (g.W.Device.seen c.args.out.now) (g.W.Device.seen c.loop-i.out) in
    let b : Change = change g.W.Device.is_in_memory (g.W.Device.seen c.loop-i.out) (g.W.Device.seen c.tell_answer.new.out) in
    let hears = c.in_ok-output.ensures.hears in
    let waits = stands_now c.args.t k asked c.loop-i.next c.loop-i.agent.keeper c.loop-i-test.true c.loop-i.invariant.stands in
    let like = hears_shaped c.loop-i.agent.keeper c.tell_answer.new.agent.keeper (get_or asked k 0) c.in_ok-output.output hears in
    record {
      told = told_more (g.E.Exchange.host_port c.args.exchange.now) c.args.agent.now.credentials c.args.t o mid start c.loop-i.agent.keeper asked k c.loop-i.next a b refl c.loop-i-test.true c.loop-i.invariant.shaped new c.tell_answer.new.agent.keeper c.in_ok-output.output
          c.told_next-next.result c.told_next-next.ensures c.loop-i.invariant.told
          (as_begun c.loop-i.invariant.port c.loop-i.invariant.credentials (λ p ks. TellsOne p ks c.args.t (both c.loop-i.agent.keeper mid) (get_or asked k 0) (Ok c.in_ok-output.output) (both c.tell_answer.new.agent.keeper new) b) c.in_ok-output.ensures.tells);
      shaped = both_shaped start.forest c.loop-i.agent.keeper.forest c.tell_answer.new.agent.keeper.forest c.loop-i.invariant.shaped like;
      credentials = c.in_ok-output.ensures.credentials ∙ c.loop-i.invariant.credentials;
      port = c.in_ok-output.ensures.port ∙ c.loop-i.invariant.port;
      quiet = ap (λ s. s.shortened) hears.is;
      stands = subst (λ n. Stands c.args.t (drop (k + 1) asked) n c.tell_answer.new.agent.keeper) (sym c.told_next-next.ensures)
          (hears_leads c.loop-i.agent.keeper c.tell_answer.new.agent.keeper c.args.t (get_or asked k 0) (drop (k + 1) asked) c.in_ok-output.output c.loop-i.next waits hears);
    }
