-- By falling index one entry more is renewed, while all over it still have their old ends.
use Rattle.std.proofs.Common.{◌≡◌, ◌+◌, ◌-◌, ◌<◌, arith, length, subst, sym}
use Rattle.plan_forest.specs.Forest.{Forest}
use Rattle.plan_forest.proofs.Placed.{parents_first}
use Rattle.plan_commands.proofs.Renewals.{IsRenewedFrom, renewed_none, renewed_turn, renewed_whole}
use Rattle.plan_commands.proofs.renewed.renew_all.Goals as goal

pub loop-index-init : goal.loop-index-init
loop-index-init c = subst (λ k. IsRenewedFrom c.args.forest.now c.args.at k c.args.forest.now) (sym c.len-index.ensures.value) (renewed_none c.args.forest.now c.args.at)

pub loop-index-preserved : goal.loop-index-preserved
loop-index-preserved c =
    let g = c.args.forest.now in
    let h = c.loop-index.forest in
    let i = c.loop-index.index - 1 in
    let next : c.loop-index.index ≡ i + 1 = omega arith in
    let within : i < length g.entries = omega (arith, c.len-index.ensures.value) in
    let so : IsRenewedFrom g c.args.at (i + 1) h = subst (λ k. IsRenewedFrom g c.args.at k h) next c.loop-index.invariant in
    subst (λ (f : Forest). IsRenewedFrom g c.args.at i f) (sym c.set_end.ensures)
    (renewed_turn g h (parents_first g c.len-index.ensures.sound) c.args.at i c.renewed_end-end.result so within c.renewed_end-end.ensures.value)

pub returns : goal.returns
returns c =
    let done : c.loop-index.index ≡ 0 = omega arith in
    renewed_whole c.args.forest.now c.loop-index.forest c.args.at (subst (λ k. IsRenewedFrom c.args.forest.now c.args.at k c.loop-index.forest) done c.loop-index.invariant)
