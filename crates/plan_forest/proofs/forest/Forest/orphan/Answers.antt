-- A token that loses its parent leaves a forest, in which nothing else has changed.
use Rattle.std.proofs.Common.{◌≡◌, ◌<◌, ◌∙◌, None, ap, false, length, set, subst, sym}
use Rattle.plan_forest.specs.{declared.entry.Entry.Entry, Forest.Forest, Forest.entry_at, Push.IsForest, Push.is_lease}
use Rattle.plan_forest.proofs.{Entries.entry_read, Entries.index_named_set, Placed.change_returns, Placed.orphaned_is_forest}
use Rattle.plan_forest.proofs.forest.Forest.orphan.Goals as goal

pub invariant_of-self : goal.invariant_of-self
invariant_of-self c =
    let g : Forest = record { entries = c.self.inside.entries.items; margin = c.self.inside.margin } in
    let i = c.args.index in
    let x = c.index_mut.result.now in
    let e : Entry = record x { parent = None } in
    let within : i < length g.entries = subst (λ (h : Forest). i < length h.entries) (sym c.self.view_is) c.requires.within in
    let token : is_lease (entry_at g.entries i).kind ≡ false = subst (λ (h : Forest). is_lease (entry_at h.entries i).kind ≡ false) (sym c.self.view_is) c.requires.token in
    let read : x ≡ entry_at g.entries i = entry_read g.entries i x within c.index_mut.ensures.value in (
      subst (λ (y : Entry). IsForest (record { entries = set g.entries i (record y { parent = None }); margin = g.margin })) (sym read) (orphaned_is_forest g c.self.invariant.0 i within token),
      λ q. c.self.invariant.1 q ∙ sym (index_named_set g.entries i e q (ap (λ (y : Entry). y.name) read)),
    )

pub returns : goal.returns
returns c =
    let es = c.self.inside.entries.items in
    let i = c.args.index in
    let within : i < length es = subst (λ (h : Forest). i < length h.entries) (sym c.self.view_is) c.requires.within in
    change_returns c.args.self.now es c.self.inside.margin i c.index_mut.result.now (λ x. record x { parent = None }) c.self.view_is
    (entry_read es i c.index_mut.result.now within c.index_mut.ensures.value)
