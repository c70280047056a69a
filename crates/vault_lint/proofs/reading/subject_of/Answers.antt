-- What is read twice is the same, and there is a note and a load for each entry.
use Rattle.std.proofs.Common.{◌∙◌, ap, arith, length, refl, subst}
use Rattle.vault_inventory.specs.{Inventories.Inventory, Served.Served}
use Rattle.plan_needs.specs.Carried.{IsCarried}
use Rattle.plan_forest.specs.Forest.{Forest}
use Rattle.vault_lint.proofs.GoodOnes.{good_count, good_of}
use Rattle.vault_lint.proofs.reading.subject_of.Goals as goal

pub invariant_of-result : goal.invariant_of-result
invariant_of-result c =
    let v = c.args.served in
    let same = good_of c.args.bytes.now v c.in_ok-inventory.inventory c.requires c.in_ok-inventory.ensures in
    let all = ap (λ (i : Inventory). length i.forest.entries) same in
    let count = good_count v in
    let notes = ap (λ (w : Served). length w.notes) c.served.view_is in
    let entries = ap (λ (w : Served). length w.inventory.forest.entries) c.served.view_is in
    record {
      noted = omega (arith, all, count, notes, entries, c.served.invariant.notes);
      counted = c.in_ok-carried.ensures.count ∙ ap (λ (g : Forest). length g.entries) c.forest.ensures.value;
    }

pub returns : goal.returns
returns c =
    record {
      reads = c.requires;
      for_good = good_of c.args.bytes.now c.args.served c.in_ok-inventory.inventory c.requires c.in_ok-inventory.ensures;
      carries = subst (λ (g : Forest). IsCarried g 0 c.in_ok-carried.carried) c.forest.ensures.value c.in_ok-carried.ensures;
      files = refl;
      marks = c.in_ok-places.ensures.marks;
      heads = c.in_ok-places.ensures.heads;
      at_now = refl;
      by_timeout = refl;
    }
