-- One mark more is made.
use Rattle.std.proofs.Common.{arith}
use Rattle.agent_log.specs.LinesOfClocks.{marks_clocked, with_ended}
use Rattle.agent_log.proofs.Marking.{marked_all, marked_more, marked_none}
use Rattle.agent_log.proofs.log_ended.mark_ended.Goals as goal

pub loop-entry-init : goal.loop-entry-init
loop-entry-init c = marked_none (with_ended c.args.agent.now) c.args.marks.now

pub loop-entry-preserved : goal.loop-entry-preserved
loop-entry-preserved c =
    let test = c.loop-entry-test.true in
    marked_more (with_ended c.args.agent.now) c.args.marks.now c.loop-entry.marks c.loop-entry.entry c.with_ended.result c.loop-entry.invariant (omega (arith, test)) c.with_ended.ensures

pub returns : goal.returns
unfolding marks_clocked
returns c =
    let over = c.loop-entry-test.false in
    let count = c.loop-entry.invariant.count in
    marked_all (with_ended c.args.agent.now) c.args.marks.now c.loop-entry.marks c.loop-entry.entry c.loop-entry.invariant (omega (arith, over, count))
