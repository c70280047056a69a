-- One slot more is made, and all of them together are sound and have no credential twice.
use Rattle.std.proofs.Common.{◌≡◌, ◌∙◌, ap, arith, length, subst, sym}
use Rattle.plan_forest.specs.{Forest.Forest, Push.IsForest}
use Rattle.broker_table.specs.{Index.AreUnlike, Slots.AreSlots}
use Rattle.broker_table.proofs.Loaded.{all_slots, slots_are_sound, slots_are_unlike, slots_more}
use Rattle.broker_table.proofs.slot.slots_of.Goals as goal

pub loop-index-preserved : goal.loop-index-preserved
loop-index-preserved c =
    c.in_ok-push.ensures.items
    ∙ slots_more c.args.inventory.now c.loop-index.index c.loop-index.slots.items c.in_ok-slot_of.field-0 c.loop-index.invariant c.in_ok-slot_of.ensures

pub returns-clause-slots : goal.returns-clause-slots
returns-clause-slots c =
    let count : c.len-index-end.result ≡ length c.args.inventory.now.forest.entries = c.len-index-end.ensures.value ∙ ap (λ (g : Forest). length g.entries) c.forest.ensures.value in
    all_slots c.args.inventory.now c.loop-index.index c.loop-index.slots.items c.loop-index.invariant (omega arith)

pub returns-clause-sound : goal.returns-clause-sound
returns-clause-sound c =
    let count : c.len-index-end.result ≡ length c.args.inventory.now.forest.entries = c.len-index-end.ensures.value ∙ ap (λ (g : Forest). length g.entries) c.forest.ensures.value in
    let forest : IsForest c.args.inventory.now.forest = subst IsForest c.forest.ensures.value c.len-index-end.ensures.sound in
    subst AreSlots (sym (all_slots c.args.inventory.now c.loop-index.index c.loop-index.slots.items c.loop-index.invariant (omega arith))) (slots_are_sound c.args.inventory.now forest)

pub returns-clause-unlike : goal.returns-clause-unlike
returns-clause-unlike c =
    let count : c.len-index-end.result ≡ length c.args.inventory.now.forest.entries = c.len-index-end.ensures.value ∙ ap (λ (g : Forest). length g.entries) c.forest.ensures.value in
    subst AreUnlike (sym (all_slots c.args.inventory.now c.loop-index.index c.loop-index.slots.items c.loop-index.invariant (omega arith))) (slots_are_unlike c.args.inventory.now c.forest.ensures.sound.apart)
