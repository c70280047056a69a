-- One entry more is listed with its own need, if that comes after the start.
use Rattle.std.proofs.Common.{◌≡◌, ◌∙◌, ap, arith}
use Rattle.std.proofs.lemmas.Grind.{common_steps}
use Rattle.plan_forest.specs.Forest.{entry_at}
use Rattle.plan_needs.specs.code.Loads.{need_after, nth}
use Rattle.plan_needs.proofs.carried.own_loads.Goals as goal

pub loop-from-preserved : goal.loop-from-preserved
unfolding nth
loop-from-preserved c =
    let need : c.need_after-need.result ≡ need_after c.args.start (entry_at c.args.forest.now.entries c.loop-from.from) = c.need_after-need.ensures ∙ ap (need_after c.args.start) c.get.ensures.value in
    record {
      count = omega (arith, c.in_ok-push.ensures.len);
      each = λ k h. grind (arith, common_steps, c.loop-from.invariant.each k);
    }
