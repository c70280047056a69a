-- One margin after another is tried, the greatest first.
use Rattle.std.proofs.Common.{◌≡◌, ◌∙◌, ◌<◌, ◌+◌, ◌-◌, ap, arith, sym}
use Rattle.plan_spread.specs.Behind.{in_front_up_to, margin_by, margin_in_front}
use Rattle.plan_spread.proofs.Fronts.{front_here, front_less}
use Rattle.plan_spread.proofs.behind.margin_in_front.Goals as goal

pub loop-less-preserved : goal.loop-less-preserved
loop-less-preserved c =
    let b = c.args.behind in
    let number = c.args.number in
    let m = c.loop-less.less in
    let some : 0 < m = omega arith in
    let next : m - 1 + 1 ≡ m = omega (arith, some) in
    let is : c.margin_by.result ≡ margin_by m number = c.margin_by.ensures.value ∙ ap (λ n. margin_by n number) next in
    sym (front_less b number m some (λ same. c.if-margin_by-behind.false (is ∙ same))) ∙ c.loop-less.invariant

pub returns-then-margin_by-behind : goal.returns-then-margin_by-behind
unfolding margin_in_front
returns-then-margin_by-behind c =
    let b = c.args.behind in
    let number = c.args.number in
    let m = c.loop-less.less in
    let some : 0 < m = omega arith in
    let next : m - 1 + 1 ≡ m = omega (arith, some) in
    let is : c.margin_by.result ≡ margin_by m number = c.margin_by.ensures.value ∙ ap (λ n. margin_by n number) next in
    next ∙ sym (front_here b number m some (sym is ∙ c.if-margin_by-behind.true)) ∙ c.loop-less.invariant

pub returns : goal.returns
unfolding margin_in_front
returns c = ap (λ n. in_front_up_to c.args.behind c.args.number n) (let e : 0 ≡ c.loop-less.less = omega arith in e) ∙ c.loop-less.invariant
