-- At a late tick a plan can be made after shortening, and where it is refused nothing is changed.
use Rattle.std.proofs.Common.{◌≡◌, ◌∙◌, ap, arith, length, subst, sym}
use Rattle.plan_forest.specs.Forest.{Forest, end_of}
use Rattle.plan_rule.specs.Unkeepable.{AllKeepable}
use Rattle.tick_keeper.specs.code.Passes.{ForestHasNeeds, PlanRefused}
use Rattle.tick_keeper.proofs.{Passing.fails, Passing.taken_back, Shortening.shorten_count, Shortening.shorten_keepable}
use Rattle.tick_keeper.proofs.tick.replan_late.Goals as goal

pub plan_late-requires : goal.plan_late-requires
plan_late-requires c =
    let after = c.in_ok-needs.ensures in
    subst (λ (h : Forest). AllKeepable h c.args.at (end_of h.entries)) (sym after.shortened.0) (shorten_keepable c.args.forest.now after.sound.0 c.args.at)

pub restore-requires : goal.restore-requires
restore-requires c =
    let after = c.in_ok-needs.ensures in
    ap length c.deref.ensures.value ∙ after.before.count ∙ sym (shorten_count c.args.forest.now c.args.at) ∙ ap (λ (h : Forest). length h.entries) (sym after.shortened.0)

pub returns-clause-refused : goal.returns-clause-refused
returns-clause-refused c =
    let after = c.in_ok-needs.ensures in
    fails c.args.forest.now after.sound.0 c.args.at c.in-Err.fault (subst (λ (h : Forest). PlanRefused h c.args.at c.in-Err.fault) after.shortened.0 c.in-Err.ensures.refused)

pub returns-clause-unchanged : goal.returns-clause-unchanged
returns-clause-unchanged c =
    let after = c.in_ok-needs.ensures in
    let needs : ForestHasNeeds c.args.forest.now c.deref.result.now = subst (ForestHasNeeds c.args.forest.now) (sym c.deref.ensures.value) after.before in
    let whole = c.args.shortened.now.ok.0 in
    let noted : c.len-noted.result ≡ length c.args.shortened.now.items = omega (arith, c.len-noted.ensures) in
    let back = taken_back c.args.forest.now c.shorten.new.forest c.args.at c.args.shortened.now.items c.shorten.new.shortened.items c.deref.result.now c.len-noted.result after.shortened.0 after.shortened.1 noted needs in
    (c.restore.ensures.forest ∙ back.0, c.restore.ensures.shortened ∙ back.1)
