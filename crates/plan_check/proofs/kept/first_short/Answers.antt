-- One entry more lasts until its need, or is the lowest over which one falls short.
use Rattle.std.proofs.Common.{◌≡◌, ◌∙◌, ◌+◌, ◌<◌, ◌≤◌, ap, arith, length, subst, sym}
use Rattle.plan_forest.specs.{declared.entry.Entry.Entry, Forest.end_of, Forest.entry_at}
use Rattle.plan_rule.proofs.Rounds.{LastsBelow}
use Rattle.plan_rule.specs.Runs.{all_wakes, moments_of}
use Rattle.plan_check.specs.{Kept.own, code.Steps.least_with}
use Rattle.plan_check.proofs.Lasts.{all_last_more, least_here, least_pushed, short_here}
use Rattle.plan_check.proofs.kept.first_short.Goals as goal
use Rattle.plan_check.proofs.kept.first_short.Goals.{else-start-need-via-then-start-need+else-last-need, else-start-need-via-else-start-need}

pub returns-then-last-need-clause-short : goal.returns-then-last-need-clause-short
returns-then-last-need-clause-short c =
    let g = c.args.forest.now in
    let i = c.loop-index.index in
    let last = c.least_over-last.result in
    let owns = own g.entries g.margin (end_of g.entries) (moments_of (all_wakes c.args.rising.now.runs)) in
    let is = c.least_over-last.ensures.value ∙ ap (least_with (entry_at g.entries i).parent c.own_end-end.result) c.deref.ensures.value in
    let here = least_here g c.least_over-last.ensures.sound owns c.loop-index.lasts.items i c.own_end-end.result last c.loop-index.invariant.least c.own_end-end.ensures is in
    let need : c.get.result.now.need ≡ (entry_at g.entries i).need = ap (λ (e : Entry). e.need) c.get.ensures.value in
    (omega (arith, c.len-index-end.ensures.value), (omega (arith, need, c.start-start.ensures, c.if-start-need.true), (short_here g owns i last here (omega (arith, need, c.if-last-need.true)), c.loop-index.invariant.last)))

pub loop-index-preserved : goal.loop-index-preserved
loop-index-preserved c =
    let g = c.args.forest.now in
    let i = c.loop-index.index in
    let last = c.least_over-last.result in
    let lasts = c.loop-index.lasts.items in
    let owns = own g.entries g.margin (end_of g.entries) (moments_of (all_wakes c.args.rising.now.runs)) in
    let is = c.least_over-last.ensures.value ∙ ap (least_with (entry_at g.entries i).parent c.own_end-end.result) c.deref.ensures.value in
    let here = least_here g c.least_over-last.ensures.sound owns lasts i c.own_end-end.result last c.loop-index.invariant.least c.own_end-end.ensures is in
    let need : c.get.result.now.need ≡ (entry_at g.entries i).need = ap (λ (e : Entry). e.need) c.get.ensures.value in
    let enough : c.args.rising.now.start < (entry_at g.entries i).need → (entry_at g.entries i).need ≤ last = λ later. elim c.else-start-need.branch [
      | else-start-need-via-then-start-need+else-last-need w ↦ omega (arith, need, w.if-last-need.false)
      | else-start-need-via-else-start-need w ↦ absurd (omega (arith, need, later, c.start-start.ensures, w.if-start-need.false))
    ] in
    let count : length lasts ≡ i = omega (arith, c.loop-index.invariant.count, c.loop-index.lasts.ok.0) in
    let pushed = least_pushed g owns lasts i last count c.loop-index.invariant.least here in
    record {
      count = omega (arith, c.loop-index.invariant.count, c.in_ok-push.ensures.len);
      least = subst (λ xs. LastsBelow g.entries owns xs (i + 1)) (sym c.in_ok-push.ensures.items) pushed;
      last = all_last_more g c.args.rising.now.start owns i last here c.loop-index.invariant.last enough;
    }
