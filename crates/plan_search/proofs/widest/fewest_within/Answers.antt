-- The plan that keeps has the fewest wake-ups, and their number tells whether any plan is within the bound.
use Rattle.std.proofs.Common.{subst}
use Rattle.plan_search.specs.Decides.{Decides, IsBestPlan}
use Rattle.plan_search.proofs.Widening.{told_fewest}
use Rattle.plan_search.proofs.widest.fewest_within.Goals as goal

pub returns-in-Keep : goal.returns-in-Keep
returns-in-Keep c =
    let g = c.args.forest.now in
    let s = c.args.start in
    let kept : IsBestPlan g s c.in-Keep.plan = subst (Decides g s) c.in-Keep.is c.in_ok-plan.ensures in
    told_fewest g s c.args.most_wakes c.len.result c.in-Keep.plan c.at_most.result kept c.len.ensures.value c.at_most.ensures
