-- One end more is listed, and a list with the end of each entry shows the present ends.
use Rattle.std.proofs.Common.{◌≡◌, ap, arith, length}
use Rattle.std.proofs.lemmas.Grind.{common_steps}
use Rattle.plan_forest.specs.{declared.entry.Entry.Entry, Forest.end_of, Forest.entry_at}
use Rattle.plan_rule.proofs.Lists.{shown_present}
use Rattle.plan_rule.proofs.replay.present_ends.Goals as goal

pub loop-index-preserved : goal.loop-index-preserved
unfolding end_of
loop-index-preserved c =
    let end : c.get.result.now.end ≡ (entry_at c.args.forest.now.entries c.loop-index.index).end = ap (λ (e : Entry). e.end) c.get.ensures.value in
    record {
      count = omega (arith, c.in_ok-push.ensures.len);
      each = λ k h. grind (arith, common_steps, c.loop-index.invariant.each k);
    }

pub returns : goal.returns
returns c =
    let es = c.args.forest.now.entries in
    let count : length c.loop-index.ends.items ≡ length es = omega (arith, c.len-index-end.ensures.value, c.loop-index.ends.ok.0, c.loop-index.invariant.count) in (
      omega (arith, c.len-index-end.ensures.value, c.loop-index.invariant.count),
      shown_present es c.loop-index.ends.items count (λ k h. c.loop-index.invariant.each k (omega (arith, c.len-index-end.ensures.value))),
    )
