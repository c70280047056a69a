-- The parent of an entry is not lacking, so that its name may be asked.
use Rattle.std.proofs.Common.{◌≡◌, ◌∙◌, ap, subst}
use Rattle.plan_forest.specs.{declared.entry.Entry.Entry, Forest.Forest, Forest.entry_at, Push.IsForest, Push.lacks_parent}
use Rattle.broker_table.proofs.Loaded.{has_parent}
use Rattle.broker_table.proofs.slot.slot_of.Goals as goal

pub parent_of-requires : goal.parent_of-requires
parent_of-requires c =
    let g = c.args.inventory.now.forest in
    let forest : IsForest g = subst IsForest c.forest.ensures.value c.get-entry.ensures.sound in
    let entry : c.get-entry.result.now ≡ entry_at g.entries c.args.index = c.get-entry.ensures.value ∙ ap (λ (h : Forest). entry_at h.entries c.args.index) c.forest.ensures.value in
    ap (λ (e : Entry). lacks_parent g.entries e.parent) entry ∙ has_parent g forest c.args.index c.requires
