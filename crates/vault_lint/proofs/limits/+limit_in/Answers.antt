-- The first limit is the entry's own, else that of its parent and of those over it.
use Rattle.std.proofs.Common.{◌≡◌, ◌∙◌, Some, None, ap, sym}
use Rattle.plan_forest.proofs.Placed.{parents_first}
use Rattle.plan_forest.specs.{Forest.Forest, Forest.entry_at, declared.entry.Entry.Entry}
use Rattle.vault_lint.specs.Limits.{limit_at}
use Rattle.vault_lint.proofs.FirstLimit.{limit_child, limit_own, limit_root}
use Rattle.vault_lint.proofs.limits.+limit_in.Goals as goal

pub returns-in-Some : goal.returns-in-Some
returns-in-Some t c = sym (limit_own c.args.subject.now c.args.need c.args.index c.in-Some.what (sym c.in-Some.ensures))

pub returns-in-None : goal.returns-in-None
returns-in-None t c =
    let s = c.args.subject.now in
    let i = c.args.index in
    let none : limit_at s c.args.need i ≡ None = cc in
    let root : (entry_at s.inventory.forest.entries i).parent ≡ None =
    sym (ap (λ (g : Forest). (entry_at g.entries i).parent) c.forest.ensures.value) ∙ sym (ap (λ (e : Entry). e.parent) c.get.ensures.value) ∙ c.in-None.is in
    sym (limit_root s c.args.need i none root)

pub returns-in-Some-parent : goal.returns-in-Some-parent
returns-in-Some-parent t c =
    let s = c.args.subject.now in
    let i = c.args.index in
    let p = c.in-Some-parent.parent in
    let none : limit_at s c.args.need i ≡ None = cc in
    let child : (entry_at s.inventory.forest.entries i).parent ≡ Some p =
    sym (ap (λ (g : Forest). (entry_at g.entries i).parent) c.forest.ensures.value) ∙ sym (ap (λ (e : Entry). e.parent) c.get.ensures.value) ∙ c.in-Some-parent.is in
    let first = parents_first s.inventory.forest c.forest.ensures.sound.forest in
    c.limit_in.ensures ∙ sym (limit_child s c.args.need i p none first child)
