-- The answer to runs is their first fault, else the lowest entry that is not kept, else Yes.
use Rattle.std.proofs.Common.{◌≡◌, None, Some, subst}
use Rattle.plan_forest.specs.Forest.{end_of}
use Rattle.plan_rule.specs.Runs.{all_wakes, moments_of}
use Rattle.plan_check.specs.{Answer.first_fault, Kept.own, code.Steps.FirstShort, code.Rising.Rising}
use Rattle.plan_check.proofs.Judged.{walk_fault, walk_rises, walk_unkept, walk_yes}
use Rattle.plan_check.proofs.checker.check_runs.Goals as goal

pub returns-in-Some : goal.returns-in-Some
returns-in-Some c =
    let found = subst (λ s. Some c.in-Some.cause ≡ first_fault c.args.forest.now s (all_wakes c.args.runs.now)) c.get-start.ensures.value c.in-Some.ensures in
    walk_fault c.args.forest.now c.args.start (all_wakes c.args.runs.now) c.in-Some.cause found

pub over-requires-clause-rising : goal.over-requires-clause-rising
over-requires-clause-rising c = walk_rises c.args.forest.now c.get-start.result (all_wakes c.args.runs.now) c.in-None.ensures

pub returns-in-Some-2 : goal.returns-in-Some-2
returns-in-Some-2 c =
    let g = c.args.forest.now in
    let ws = all_wakes c.args.runs.now in
    let found = subst (λ s. None ≡ first_fault g s ws) c.get-start.ensures.value c.in-None.ensures in
    let short = subst (λ s. FirstShort g s (own g.entries g.margin (end_of g.entries) (moments_of ws)) c.in_ok-index.field-0) c.get-start.ensures.value
    (subst (λ (r : Rising). FirstShort g r.start (own g.entries g.margin (end_of g.entries) (moments_of (all_wakes r.runs))) c.in_ok-index.field-0) c.in_ok-rising.ensures c.in_ok-index.ensures.short) in
    walk_unkept g c.first_short.ensures.sound c.args.start ws c.in-Some-2.index found (subst (FirstShort g c.args.start (own g.entries g.margin (end_of g.entries) (moments_of ws))) c.in-Some-2.is short)

pub returns : goal.returns
returns c =
    let g = c.args.forest.now in
    let ws = all_wakes c.args.runs.now in
    let found = subst (λ s. None ≡ first_fault g s ws) c.get-start.ensures.value c.in-None.ensures in
    let all = subst (λ s. FirstShort g s (own g.entries g.margin (end_of g.entries) (moments_of ws)) c.in_ok-index.field-0) c.get-start.ensures.value
    (subst (λ (r : Rising). FirstShort g r.start (own g.entries g.margin (end_of g.entries) (moments_of (all_wakes r.runs))) c.in_ok-index.field-0) c.in_ok-rising.ensures c.in_ok-index.ensures.short) in
    walk_yes g c.first_short.ensures.sound c.args.start ws found (subst (FirstShort g c.args.start (own g.entries g.margin (end_of g.entries) (moments_of ws))) c.in-None-2.is all)
