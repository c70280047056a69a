-- A step over the margin and a ceiling within the range leave a forest, in which only these two fields differ.
use Rattle.std.proofs.Common.{◌≡◌, ◌+◌, ◌<◌, ◌≤◌, ◌∙◌, ap, arith, length, refl, subst, sym}
use Rattle.plan_forest.specs.{declared.entry.Entry.Entry, Forest.Forest, Forest.entry_at}
use Rattle.plan_forest.proofs.{Entries.entry_read, Entries.index_named_set, Placed.ceiling_within, Placed.change_returns, Placed.read_range, Placed.replaced_is_forest, Placed.replaces_read}
use Rattle.plan_forest.proofs.forest.Forest.set_terms.Goals as goal

pub invariant_of-self : goal.invariant_of-self
invariant_of-self c =
    let g : Forest = record { entries = c.self.inside.entries.items; margin = c.self.inside.margin } in
    let i = c.args.index in
    let x = c.index_mut-entry.result.now in
    let e : Entry = record x { step = c.args.step; ceiling = c.args.ceiling } in
    let within : i < length g.entries = subst (λ (h : Forest). i < length h.entries) (sym c.self.view_is) c.requires.within in
    let read : x ≡ entry_at g.entries i = entry_read g.entries i x within c.index_mut-entry.ensures.value in
    let old = read_range g c.self.invariant.0 i x within read in (
      replaced_is_forest g c.self.invariant.0 i e (replaces_read g c.self.invariant.0 i x e within read refl refl refl (let m : c.self.inside.margin + 1 ≤ c.args.step = subst (λ (h : Forest). h.margin + 1 ≤ c.args.step) (sym c.self.view_is) c.requires.step in omega arith) (record { end = old.end; ceiling = ceiling_within c.args.ceiling c.requires.range; need = old.need })),
      λ q. c.self.invariant.1 q ∙ sym (index_named_set g.entries i e q (ap (λ (y : Entry). y.name) read)),
    )

pub returns : goal.returns
returns c =
    let es = c.self.inside.entries.items in
    let i = c.args.index in
    let within : i < length es = subst (λ (h : Forest). i < length h.entries) (sym c.self.view_is) c.requires.within in
    change_returns c.args.self.now es c.self.inside.margin i c.index_mut-entry.result.now (λ x. record x { step = c.args.step; ceiling = c.args.ceiling }) c.self.view_is
    (entry_read es i c.index_mut-entry.result.now within c.index_mut-entry.ensures.value)
