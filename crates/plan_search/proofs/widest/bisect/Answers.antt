-- Trying the middle leaves the widest margin between the bounds, which are one in the end.
use Rattle.std.proofs.Common.{◌≡◌, ◌∙◌, ◌-◌, ◌/◌, ◌<◌, ◌≤◌, MatchOption, ap, arith, refl, subst}
use Rattle.plan_forest.specs.Forest.{Forest}
use Rattle.plan_search.specs.Widest.{IsFewest, KeepsWithin}
use Rattle.plan_search.proofs.Widening.{between_down, between_first}
use Rattle.plan_search.proofs.widest.bisect.Goals as goal

pub loop-low-init : goal.loop-low-init
loop-low-init c = (between_first c.args.forest.now c.args.start c.args.most_wakes c.most_margin-high.result c.most_margin-high.ensures.value, refl)

pub loop-low-preserved : goal.loop-low-preserved
loop-low-preserved c =
    let g = c.args.forest.now in
    let s = c.args.start in
    let most = c.args.most_wakes in
    let low = c.loop-low.low in
    let high = c.loop-low.high in
    let middle = high - (high - low.margin) / 2 in
    let open' : low.margin < high = c.loop-low-test.true in
    let over : low.margin < middle = omega arith in
    let within : middle ≤ high = omega arith in
    let same : c.set_margin.new.self ≡ record g { margin = middle } = c.set_margin.ensures ∙ ap (λ es. record g { entries = es; margin = middle }) c.loop-low.invariant.1 in
    let there : KeepsWithin c.set_margin.new.self s most → ⊥ =
    subst (λ found. MatchOption found (KeepsWithin c.set_margin.new.self s most → ⊥) (λ wakes. (wakes ≤ most) × IsFewest c.set_margin.new.self s wakes)) c.in-None.is c.in_ok-wakes.ensures in
    let none : KeepsWithin (record g { margin = middle }) s most → ⊥ = subst (λ (h : Forest). KeepsWithin h s most → ⊥) same there in
    (between_down g c.most_margin-high.ensures.sound s most low high middle c.loop-low.invariant.0 over within none, ap (λ (h : Forest). h.entries) same)
