-- Where planning with a new need is refused, the entry gets back the need that it had.
use Rattle.std.proofs.Common.{◌≡◌, ◌∙◌, ap, arith}
use Rattle.plan_forest.specs.{declared.entry.Entry.Entry, Forest.entry_at}
use Rattle.plan_rule.proofs.Lists.{need_within}
use Rattle.tick_keeper.proofs.Taken.{moment_is, need_back, on_err}
use Rattle.tick_keeper.proofs.need.replan_with_need.Goals as goal

pub unwrap-before-requires : goal.unwrap-before-requires
unwrap-before-requires c =
    let most = need_within c.args.forest.now c.get.ensures.sound c.args.i in
    let same = ap (λ (e : Entry). e.need) c.get.ensures.value in
    c.new.ensures.within.1 (omega arith)

pub returns-then-is_err-clause-unchanged : goal.returns-then-is_err-clause-unchanged
returns-then-is_err-clause-unchanged c =
    let g = c.args.forest.now in
    let i = c.args.i in
    let was : c.unwrap-before.result ≡ (entry_at g.entries i).need =
    moment_is c.new.result c.unwrap-before.result c.get.result.now.need c.unwrap-before.ensures c.new.ensures.value ∙ ap (λ (e : Entry). e.need) c.get.ensures.value in
    on_err c.replan-planned.result _ _
    (λ same. (c.set_need-then-is_err.ensures ∙ need_back g c.replan-planned.new.forest i c.args.until c.unwrap-before.result c.requires was (same.0 ∙ c.set_need.ensures), same.1)) c.replan-planned.ensures.unchanged
