-- With one entry more, the greatest margin is the lesser of that before and the entry's step less one.
use Rattle.std.proofs.Common.{◌≡◌, ◌+◌, ◌-◌, ◌<◌, length, min, arith, subst, sym}
use Rattle.plan_forest.specs.{declared.entry.Entry.Entry, Forest.entry_at}
use Rattle.plan_forest.proofs.Margins.{IsMostOf, most_of_more}
use Rattle.plan_forest.proofs.forest.Forest.most_margin.Goals as goal

pub loop-index-preserved : goal.loop-index-preserved
loop-index-preserved c =
    let g = c.args.self.now in
    let i = c.loop-index.index in
    let within : i < length g.entries = omega (arith, c.len-index-end.ensures.value) in
    let forest = c.get.ensures.sound in
    let above = forest.margin_above in
    let past = (forest.placed i within).step_past_margin in
    let least : c.min-most.result ≡ min c.loop-index.most ((entry_at g.entries i).step - 1) = subst (λ (e : Entry). c.min-most.result ≡ min c.loop-index.most (e.step - 1)) c.get.ensures.value c.min-most.ensures in
    subst (IsMostOf g.entries (i + 1)) (sym least) (most_of_more g.entries i c.loop-index.most (omega arith) c.loop-index.invariant)
