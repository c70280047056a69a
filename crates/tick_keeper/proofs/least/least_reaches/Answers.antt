-- One least reach more is listed, and after the last entry the list has all of them.
use Rattle.std.proofs.Common.{◌≡◌, ◌+◌, arith, length, subst, sym}
use Rattle.tick_keeper.specs.code.Passes.{AreLeast}
use Rattle.tick_keeper.proofs.Passing.{least_more}
use Rattle.tick_keeper.proofs.least.least_reaches.Goals as goal

pub loop-index-preserved : goal.loop-index-preserved
loop-index-preserved c =
    subst (AreLeast c.args.forest.now c.args.at (c.loop-index.index + 1)) (sym c.in_ok-push.ensures.items)
    (least_more c.args.forest.now c.args.at c.loop-index.index c.loop-index.reaches.items c.least_reach-least.result c.loop-index.invariant c.least_reach-least.ensures)

pub returns : goal.returns
returns c =
    let end : c.loop-index.index ≡ length c.args.forest.now.entries = omega (arith, c.len-index-end.ensures.value) in
    subst (λ n. AreLeast c.args.forest.now c.args.at n c.loop-index.reaches.items) end c.loop-index.invariant
