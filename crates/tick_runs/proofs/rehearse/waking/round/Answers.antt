-- One asked entry more has its answer, and when all have, the round is closed and the keeper ready.
use Rattle.std.proofs.Common.{ap, ◌+◌, ◌++◌, ◌∷◌, ◌∙◌, [], drop, refl, sym, subst, take, get_or, arith}
use Rattle.std.proofs.lemmas.List.{take_all, take_more}
use Rattle.tick_keeper.proofs.Shaped.{both_shaped, same}
use Rattle.tick_runs.specs.{code.Playing.Answers, code.Playing.AnswersAll, Stops.both}
use Rattle.tick_runs.proofs.{Agents.as_begun, Rounds.answers_more, Rounds.none_answered}
use Rattle.tick_runs.proofs.Refusing.{Stands, first_waits, first_within, hears_leads, hears_shaped, stands_first, stands_last, stands_now}
use Rattle.tick_runs.proofs.rehearse.waking.round.Goals as goal

pub loop-i-init : goal.loop-i-init
loop-i-init g c = record {
  answers = none_answered (g.E.Exchange.host_port c.args.exchange.now) c.args.agent.now.credentials c.args.t (both c.args.agent.now.keeper (g.E.Exchange.behind c.args.exchange.now)) c.args.text.now.items;
  shaped = same c.args.agent.now.keeper.forest;
  credentials = refl;
  port = refl;
  quiet = c.requires.quiet;
  stands = stands_first c.args.t c.args.asked.now _ c.args.agent.now.keeper c.requires.waits c.requires.some;
}

pub loop-i-preserved : goal.loop-i-preserved
loop-i-preserved g c =
    let port = g.E.Exchange.host_port c.args.exchange.now in
    let cs = c.args.agent.now.credentials in
    let asked = c.args.asked.now in
    let k = c.loop-i.i-index in
    let start = c.args.agent.now.keeper in
    let first = both start (g.E.Exchange.behind c.args.exchange.now) in
    let now = both c.loop-i.agent.keeper (g.E.Exchange.behind c.loop-i.exchange) in
    let next = both c.answer.new.agent.keeper (g.E.Exchange.behind c.answer.new.exchange) in
    let before = c.args.text.now.items in
    let middle = c.loop-i.text.items in
    let after = c.answer.new.text.items in
    let hears = c.in_ok-output.ensures.hears in
    let waits = stands_now c.args.t k asked c.loop-i.next c.loop-i.agent.keeper c.loop-i-test.true c.loop-i.invariant.stands in
    let like = hears_shaped c.loop-i.agent.keeper c.answer.new.agent.keeper (get_or asked k 0) c.in_ok-output.output hears in
    record {
      answers = subst (λ is. AnswersAll port cs c.args.t first is c.told_next-next.result next before after) (sym (take_more asked k 0 c.loop-i-test.true))
          (subst (λ n. AnswersAll port cs c.args.t first (take k asked ++ get_or asked k 0 ∷ []) n next before after) (sym c.told_next-next.ensures)
          (answers_more port cs c.args.t first now next (take k asked) (get_or asked k 0) c.loop-i.next c.in_ok-output.output before middle after c.loop-i.invariant.shaped c.loop-i.invariant.answers
          (as_begun c.loop-i.invariant.port c.loop-i.invariant.credentials (λ p ks. Answers p ks c.args.t now (get_or asked k 0) c.in_ok-output.output next middle after) c.in_ok-output.ensures.answers)));
      shaped = both_shaped start.forest c.loop-i.agent.keeper.forest c.answer.new.agent.keeper.forest c.loop-i.invariant.shaped like;
      credentials = c.in_ok-output.ensures.credentials ∙ c.loop-i.invariant.credentials;
      port = c.in_ok-output.ensures.port ∙ c.loop-i.invariant.port;
      quiet = ap (λ s. s.shortened) hears.is;
      stands = subst (λ n. Stands c.args.t (drop (k + 1) asked) n c.answer.new.agent.keeper) (sym c.told_next-next.ensures)
          (hears_leads c.loop-i.agent.keeper c.answer.new.agent.keeper c.args.t (get_or asked k 0) (drop (k + 1) asked) c.in_ok-output.output c.loop-i.next waits hears);
    }

pub answer-requires-clause-within : goal.answer-requires-clause-within
answer-requires-clause-within g c =
    first_within c.loop-i.agent.keeper c.args.t (get_or c.args.asked.now c.loop-i.i-index 0) (drop (c.loop-i.i-index + 1) c.args.asked.now)
    (stands_now c.args.t c.loop-i.i-index c.args.asked.now c.loop-i.next c.loop-i.agent.keeper c.loop-i-test.true c.loop-i.invariant.stands)

pub answer-requires-clause-waits : goal.answer-requires-clause-waits
answer-requires-clause-waits g c =
    first_waits c.loop-i.agent.keeper c.args.t (get_or c.args.asked.now c.loop-i.i-index 0) (drop (c.loop-i.i-index + 1) c.args.asked.now)
    (stands_now c.args.t c.loop-i.i-index c.args.asked.now c.loop-i.next c.loop-i.agent.keeper c.loop-i-test.true c.loop-i.invariant.stands)

pub returns-clause-answers : goal.returns-clause-answers
returns-clause-answers g c =
    subst (λ is. AnswersAll (g.E.Exchange.host_port c.args.exchange.now) c.args.agent.now.credentials c.args.t (both c.args.agent.now.keeper (g.E.Exchange.behind c.args.exchange.now)) is c.loop-i.next (both c.loop-i.agent.keeper (g.E.Exchange.behind c.loop-i.exchange)) c.args.text.now.items c.loop-i.text.items)
    (take_all c.loop-i.i-index c.args.asked.now (let past = c.loop-i-test.false in omega arith)) c.loop-i.invariant.answers

pub returns-clause-ready : goal.returns-clause-ready
returns-clause-ready g c = record {
  quiet = c.loop-i.invariant.quiet;
  closed = (stands_last c.args.t c.loop-i.i-index c.args.asked.now c.loop-i.next c.loop-i.agent.keeper (let past = c.loop-i-test.false in omega arith) c.loop-i.invariant.stands).0;
}

pub returns-clause-comes : goal.returns-clause-comes
returns-clause-comes g c =
    (stands_last c.args.t c.loop-i.i-index c.args.asked.now c.loop-i.next c.loop-i.agent.keeper (let past = c.loop-i-test.false in omega arith) c.loop-i.invariant.stands).1
