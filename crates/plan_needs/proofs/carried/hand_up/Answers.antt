-- One entry more hands its load up: its parent then has the heavier of the two, and a root hands it to nobody.
use Rattle.std.proofs.Common.{◌≡◌, ◌<◌, ◌+◌, ◌-◌, ◌∙◌, length, length-set, ap, arith, subst, sym}
use Rattle.plan_forest.specs.declared.entry.Entry.{Entry}
use Rattle.plan_forest.proofs.Placed.{parents_first}
use Rattle.plan_needs.specs.code.Loads.{IsHandedUp, nth}
use Rattle.plan_needs.proofs.HandedUp.{handed_child, handed_first, handed_root}
use Rattle.plan_needs.proofs.carried.hand_up.Goals as goal

pub loop-index-init : goal.loop-index-init
loop-index-init c = record {
  count = c.requires;
  handed = λ s all. subst (λ k. IsHandedUp c.args.forest.now.entries s k c.args.loads.now) (sym c.len-index.ensures.value) (handed_first c.args.forest.now.entries s c.args.loads.now all);
}

pub loop-index-preserved-in-Some : goal.loop-index-preserved-in-Some
unfolding nth
loop-index-preserved-in-Some c =
    let es = c.args.forest.now.entries in
    let loads = c.loop-index.loads in
    let i = c.loop-index.index - 1 in
    let next : c.loop-index.index ≡ i + 1 = omega arith in
    let within : i < length es = omega (arith, c.len-index.ensures.value) in
    record {
      count = length-set loads c.in-Some.parent c.heavier.result ∙ c.loop-index.invariant.count;
      handed = λ s all. handed_child es s i c.in-Some.parent loads c.heavier.result (parents_first c.args.forest.now c.get.ensures.sound) within
          (sym (ap (λ (e : Entry). e.parent) c.get.ensures.value) ∙ c.in-Some.is)
          (subst (λ k. IsHandedUp es s k loads) next (c.loop-index.invariant.handed s all)) c.heavier.ensures;
    }

pub loop-index-preserved : goal.loop-index-preserved
loop-index-preserved c =
    let es = c.args.forest.now.entries in
    let next : c.loop-index.index ≡ c.loop-index.index - 1 + 1 = omega arith in
    record {
      count = c.loop-index.invariant.count;
      handed = λ s all. handed_root es s (c.loop-index.index - 1) c.loop-index.loads (sym (ap (λ (e : Entry). e.parent) c.get.ensures.value) ∙ c.in_default.is)
          (subst (λ k. IsHandedUp es s k c.loop-index.loads) next (c.loop-index.invariant.handed s all));
    }

pub returns-clause-handed : goal.returns-clause-handed
returns-clause-handed c = λ s all.
    let done : c.loop-index.index ≡ 0 = omega arith in
    subst (λ k. IsHandedUp c.args.forest.now.entries s k c.loop-index.loads) done (c.loop-index.invariant.handed s all)
