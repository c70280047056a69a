-- A root binds itself, and a child is bound by itself or by what binds its parent.
use Rattle.std.proofs.Common.{◌≡◌, ◌∙◌, ◌<◌, Some, ap, inl, inr, length, subst, sym}
use Rattle.plan_forest.specs.{declared.entry.Entry.Entry, Forest.entry_at}
use Rattle.plan_forest.proofs.Placed.{parents_first}
use Rattle.plan_commands.proofs.Reaching.{child_binds, root_binds}
use Rattle.plan_commands.proofs.bound.+bound_of.Goals as goal

pub returns-in-None-clause-value : goal.returns-in-None-clause-value
returns-in-None-clause-value t c =
    let g = c.args.forest.now in
    root_binds g c.args.start c.args.index c.reach-most.result c.reach-most.ensures (sym (ap (λ (e : Entry). e.parent) c.get.ensures.value) ∙ c.in-None.is)

pub returns-in-Some-clause-value : goal.returns-in-Some-clause-value
returns-in-Some-clause-value t c =
    let g = c.args.forest.now in
    let p = c.in-Some.parent in
    let child : (entry_at g.entries c.args.index).parent ≡ Some p = sym (ap (λ (e : Entry). e.parent) c.get.ensures.value) ∙ c.in-Some.is in
    child_binds g c.args.start c.args.index p c.reach-most.result c.bound_of.result c.nearer.result (parents_first g c.get.ensures.sound) child c.reach-most.ensures c.bound_of.ensures.value c.nearer.ensures.value

pub returns-in-Some-clause-within : goal.returns-in-Some-clause-within
returns-in-Some-clause-within t c =
    elim c.nearer.ensures.one [
      | inl own ↦ subst (λ n. n < length c.args.forest.now.entries) (sym own) c.requires
      | inr over ↦ subst (λ n. n < length c.args.forest.now.entries) (sym over) c.bound_of.ensures.within
    ]
