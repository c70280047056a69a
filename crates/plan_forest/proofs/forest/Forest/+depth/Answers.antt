-- A root has the depth 1, and any other entry one more than its parent; no depth is over the limit.
use Rattle.std.proofs.Common.{◌≡◌, ◌∙◌, ap, arith, length, sym, Some, ◌≤◌}
use Rattle.plan_forest.specs.{declared.entry.Entry.Entry, declared.forest.TheConstants.MAX_DEPTH, Forest.entry_at, Over.chain}
use Rattle.plan_forest.proofs.{Chains.chain_child, Chains.chain_root, Placed.parents_first}
use Rattle.plan_forest.proofs.forest.Forest.+depth.Goals as goal

pub returns-in-None-clause-value : goal.returns-in-None-clause-value
returns-in-None-clause-value t c =
    let es = c.args.self.now.entries in
    sym (ap length (chain_root es c.args.index (sym (ap (λ (e : Entry). e.parent) c.get.ensures.value) ∙ c.in-None.is)))

pub returns-in-Some-clause-value : goal.returns-in-Some-clause-value
returns-in-Some-clause-value t c =
    let es = c.args.self.now.entries in
    let first = parents_first c.args.self.now c.get.ensures.sound in
    let child : (entry_at es c.args.index).parent ≡ Some c.in-Some.parent = sym (ap (λ (e : Entry). e.parent) c.get.ensures.value) ∙ c.in-Some.is in
    let l = ap length (chain_child es c.args.index c.in-Some.parent first child) in
    omega (arith, c.depth.ensures.value)

pub returns-in-Some-clause-within : goal.returns-in-Some-clause-within
returns-in-Some-clause-within t c =
    let es = c.args.self.now.entries in
    let first = parents_first c.args.self.now c.get.ensures.sound in
    let child : (entry_at es c.args.index).parent ≡ Some c.in-Some.parent = sym (ap (λ (e : Entry). e.parent) c.get.ensures.value) ∙ c.in-Some.is in
    let l = ap length (chain_child es c.args.index c.in-Some.parent first child) in
    let d : length (chain es c.args.index) ≤ MAX_DEPTH = (c.get.ensures.sound.placed c.args.index c.requires).depth in
    omega (arith, c.depth.ensures.value)
