-- One need more is set, and after the last each entry has the one at its index.
use Rattle.std.proofs.Common.{◌≡◌, ◌∙◌, ◌<◌, List, ap, arith, get_or, length, refl, set}
use Rattle.std.proofs.lemmas.List.{get_or_read}
use Rattle.plan_forest.specs.{declared.entry.Entry.Entry, Forest.Forest, Forest.entry_at}
use Rattle.vault_inventory.specs.Inventories.{Inventory, inventory_with_need}
use Rattle.vault_served.specs.ForGood.{inventory_with_needs}
use Rattle.vault_served.proofs.ForGood.{all_set, one_set, so_far_count}
use Rattle.vault_served.proofs.for_good.set_needs.Goals as goal

pub loop-index-init : goal.loop-index-init
loop-index-init c = refl

pub set_need-requires : goal.set_need-requires
set_need-requires c =
    let es = c.args.inventory.now.forest.entries in
    let same = ap (λ (v : Inventory). length v.forest.entries) c.loop-index.invariant in
    let all = ap (λ (g : Forest). length g.entries) c.forest.ensures.value in
    let within : c.loop-index.index < length es = omega (arith, c.len-index-end.ensures.value, all) in
    let size = so_far_count es c.args.needs.now c.loop-index.index within in
    omega (arith, same, size)

pub loop-index-preserved : goal.loop-index-preserved
unfolding inventory_with_need
loop-index-preserved c =
    let v = c.args.inventory.now in
    let es = v.forest.entries in
    let needs = c.args.needs.now in
    let i = c.loop-index.index in
    let next : Inventory → Inventory = λ w. record w { forest = record w.forest { entries = set w.forest.entries i (record (entry_at w.forest.entries i) { need = get_or needs i 0 }) } } in
    let all = ap (λ (g : Forest). length g.entries) c.forest.ensures.value in
    let within : i < length es = omega (arith, c.len-index-end.ensures.value, all) in
    let read : c.index-needs-index.result ≡ get_or needs i 0 = get_or_read needs i c.index-needs-index.result (omega (arith, within, c.requires)) c.index-needs-index.is 0 in
    c.set_need.ensures ∙ ap (λ n. inventory_with_need c.loop-index.inventory i n) read ∙ ap next c.loop-index.invariant
    ∙ ap (λ (fs : List Entry). record v { forest = record { entries = fs; margin = v.forest.margin } }) (one_set es needs i within)

pub returns : goal.returns
unfolding inventory_with_needs
returns c =
    let v = c.args.inventory.now in
    let all = ap (λ (g : Forest). length g.entries) c.forest.ensures.value in
    c.loop-index.invariant ∙ ap (λ (fs : List Entry). record v { forest = record { entries = fs; margin = v.forest.margin } }) (all_set v.forest.entries c.args.needs.now c.loop-index.index (omega (arith, c.len-index-end.ensures.value, all)))
