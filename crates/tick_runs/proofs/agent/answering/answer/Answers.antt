-- What a reply means is an answer of the entry that asked, which is refused only for lack of memory.
use Rattle.std.proofs.Common.{◌≡◌, ap, ◌∙◌, ◌++◌, Err, length, sym, subst}
use Rattle.plan_forest.specs.{declared.entry.Entry.Entry, Forest.Forest, Forest.entry_at}
use Rattle.tick_keeper.specs.State.{CoreState}
use Rattle.tick_runs.specs.Text.{answer_line, short_need_lines}
use Rattle.tick_runs.specs.Replies.{IsAnswerOf, event_for, event_of}
use Rattle.tick_runs.proofs.{OneAnswer.answers_for, OneAnswer.one_answer, Refusing.answer_taken, Refusing.taken_stop, Within.AreOf, Within.short_within}
use Rattle.tick_runs.proofs.agent.answering.answer.Goals as goal

pub push_answer_line-requires-clause-answers : goal.push_answer_line-requires-clause-answers
push_answer_line-requires-clause-answers g c =
    subst (IsAnswerOf c.args.i) (sym c.in_ok-event.ensures.is) (answers_for c.get.result.now.kind c.credential.result.now c.args.i c.in_ok-reply.reply)

pub stop_of-requires : goal.stop_of-requires
stop_of-requires g c =
    let of = subst (IsAnswerOf c.args.i) (sym c.in_ok-event.ensures.is) (answers_for c.get.result.now.kind c.credential.result.now c.args.i c.in_ok-reply.reply) in
    (taken_stop c.in-Err.fault (answer_taken c.args.agent.now.keeper c.args.i c.in_ok-event.event c.requires.within c.requires.waits of c.in_ok-event.ensures.span (Err c.in-Err.fault) c.step.new.self.keeper c.in-Err.ensures.turn)).0

pub returns-in-Err-clause-memory : goal.returns-in-Err-clause-memory
returns-in-Err-clause-memory g c =
    let of = subst (IsAnswerOf c.args.i) (sym c.in_ok-event.ensures.is) (answers_for c.get.result.now.kind c.credential.result.now c.args.i c.in_ok-reply.reply) in
    c.stop_of.ensures
    ∙ (taken_stop c.in-Err.fault (answer_taken c.args.agent.now.keeper c.args.i c.in_ok-event.event c.requires.within c.requires.waits of c.in_ok-event.ensures.span (Err c.in-Err.fault) c.step.new.self.keeper c.in-Err.ensures.turn)).1

pub push_short_lines-requires : goal.push_short_lines-requires
push_short_lines-requires g c =
    let all = short_within c.args.agent.now.keeper c.step.new.self.keeper c.in_ok-event.event c.in-Ok.output c.requires.quiet c.in-Ok.ensures.turn in
    subst (λ n. AreOf n c.list.result.now) (sym (ap (λ (h : Forest). length h.entries) (c.forest-3.ensures ∙ ap (λ (s : CoreState). s.forest) c.take_shortened-short.ensures.after)))
    (subst (AreOf (length c.step.new.self.keeper.forest.entries)) (sym (c.list.ensures ∙ c.take_shortened-short.ensures.value)) all)

pub returns-clause-hears : goal.returns-clause-hears
returns-clause-hears g c = record {
  event = c.in_ok-event.event;
  of = subst (IsAnswerOf c.args.i) (sym c.in_ok-event.ensures.is) (answers_for c.get.result.now.kind c.credential.result.now c.args.i c.in_ok-reply.reply);
  keeper = c.step.new.self.keeper;
  turn = c.in-Ok.ensures.turn;
  is = c.take_shortened-short.ensures.after;
}

pub returns-clause-answers : goal.returns-clause-answers
returns-clause-answers g c =
    let cs = c.args.agent.now.credentials in
    let i = c.args.i in
    let old = c.args.agent.now.keeper in
    let event = c.in_ok-event.event in
    let reply = c.in_ok-reply.reply in
    let asks = c.in_ok-reply.ensures.asked in
    let means : event ≡ event_for cs old.forest i reply =
    c.in_ok-event.ensures.is
    ∙ ap (λ (q : Entry). event_of q.kind c.credential.result.now i reply) (c.get.ensures.value ∙ ap (λ (h : Forest). entry_at h.entries i) c.forest.ensures)
    ∙ ap (λ id. event_of (entry_at old.forest.entries i).kind id i reply) c.credential.ensures in
    one_answer (g.E.Exchange.behind c.args.exchange.now) (g.E.Exchange.behind c.ask.new.exchange) (g.E.Exchange.host_port c.args.exchange.now) cs c.args.t i old reply event c.in-Ok.output c.step.new.self.keeper c.take_shortened-short.new.self.keeper
    c.args.text.now.items c.push_answer_line.new.text.items c.push_short_lines.new.text.items asks means c.in-Ok.ensures.turn c.take_shortened-short.ensures.after
    (c.in_ok-push_answer_line.ensures ∙ ap (λ (h : Forest). c.args.text.now.items ++ answer_line h event reply) c.forest-2.ensures)
    (c.in_ok-push_short_lines.ensures
    ∙ ap (λ (h : Forest). c.push_answer_line.new.text.items ++ short_need_lines h c.list.result.now) c.forest-3.ensures
    ∙ ap (λ ps. c.push_answer_line.new.text.items ++ short_need_lines c.take_shortened-short.new.self.keeper.forest ps) (c.list.ensures ∙ c.take_shortened-short.ensures.value))
