-- After the last wake-up allowed the run ends, or tells that another is due.
use Rattle.std.proofs.Common.{subst}
use Rattle.tick_runs.specs.code.Playing.{OpensOrEnds}
use Rattle.tick_runs.proofs.{Goes.due_of, Written.keeps_appends, Written.last_ends}
use Rattle.tick_runs.proofs.rehearse.playing.last.Goals as goal

pub returns-in-None : goal.returns-in-None
returns-in-None g c = λ cs behind.
    let opens = subst (λ o. OpensOrEnds cs behind c.args.agent.now.keeper c.args.due o c.open.new.agent.keeper c.new-text.result.items c.open.new.text.items) c.in-None.is (c.in_ok-open.ensures.opens cs behind) in
    last_ends cs behind c.args.agent.now.keeper c.open.new.agent.keeper c.args.due c.args.requests c.new-text.result.items c.open.new.text.items c.finish.result _ c.new-text.ensures.items opens c.finish.ensures

pub returns-in_ok-flush-in-Some : goal.returns-in_ok-flush-in-Some
returns-in_ok-flush-in-Some g c = λ cs behind.
    let opens = subst (λ o. OpensOrEnds cs behind c.args.agent.now.keeper c.args.due o c.open.new.agent.keeper c.new-text.result.items c.open.new.text.items) c.in-Some.is (c.in_ok-open.ensures.opens cs behind) in (
      due_of cs behind c.args.agent.now.keeper c.open.new.agent.keeper c.args.due c.in-Some.field-0.at c.in-Some.field-0.asked c.new-text.result.items c.open.new.text.items opens,
      (keeps_appends _ _ c.in_ok-flush-in-Some.ensures.bytes, c.in_ok-flush-in-Some.ensures.flushed),
    )
