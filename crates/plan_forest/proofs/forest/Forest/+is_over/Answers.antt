-- An entry is over itself, over no other root, and over a child exactly where it is the child or over its parent.
use Rattle.std.proofs.Common.{◌≡◌, ◌∙◌, ◌||◌, ◌==◌, true, false, ap, arith, sym, subst}
use Rattle.std.proofs.lemmas.Bool.Decides.{nat_tests}
use Rattle.plan_forest.specs.{declared.entry.Entry.Entry, Over.is_over}
use Rattle.plan_forest.proofs.{Chains.over_child, Chains.over_root, Chains.over_self, Placed.parents_first}
use Rattle.plan_forest.proofs.forest.Forest.+is_over.Goals as goal

pub returns-then-above-below : goal.returns-then-above-below
returns-then-above-below t c =
    let es = c.args.self.now.entries in
    subst (λ i. true ≡ is_over es c.args.above i) c.if-above-below.true (sym (over_self es c.args.above))

pub returns-in-None : goal.returns-in-None
returns-in-None t c =
    let es = c.args.self.now.entries in
    let other : (c.args.below == c.args.above) ≡ false = grind (arith, nat_tests, c.if-above-below.false) in
    sym (over_root es c.args.above c.args.below (sym (ap (λ (e : Entry). e.parent) c.get.ensures.value) ∙ c.in-None.is) ∙ other)

pub returns-in-Some : goal.returns-in-Some
returns-in-Some t c =
    let es = c.args.self.now.entries in
    let other : (c.args.below == c.args.above) ≡ false = grind (arith, nat_tests, c.if-above-below.false) in
    c.is_over.ensures ∙ sym (over_child es c.args.above c.args.below c.in-Some.parent (parents_first c.args.self.now c.get.ensures.sound) (sym (ap (λ (e : Entry). e.parent) c.get.ensures.value) ∙ c.in-Some.is)
    ∙ ap (λ b. b || is_over es c.args.above c.in-Some.parent) other)
