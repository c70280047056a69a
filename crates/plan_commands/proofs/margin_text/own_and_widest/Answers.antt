-- The plan for the forest's own margin, where it keeps, has the fewest wake-ups.
use Rattle.std.proofs.Common.{subst, sym}
use Rattle.plan_search.specs.{Decides.Decides, Decides.IsBestPlan, Widest.IsFewest}
use Rattle.plan_search.proofs.Widening.{kept_fewest}
use Rattle.plan_commands.proofs.margin_text.own_and_widest.Goals as goal

pub two_lines-requires-clause-fewest : goal.two_lines-requires-clause-fewest
two_lines-requires-clause-fewest c =
    let g = c.args.forest.now in
    let s = c.args.start in
    let kept : IsBestPlan g s c.in-Ok-Keep.plan = subst (Decides g s) c.in-Ok-Keep.field-0-is c.in-Ok-Keep.ensures in
    subst (IsFewest g s) (sym c.len.ensures.value) (kept_fewest g s c.in-Ok-Keep.plan kept)
