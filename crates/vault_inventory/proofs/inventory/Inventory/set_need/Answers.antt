-- An inventory with another need of one entry is one still.
use Rattle.std.proofs.Common.{◌∙◌, ◌<◌, ap, length, subst, sym}
use Rattle.plan_forest.specs.{Forest.Forest, Push.IsForest}
use Rattle.vault_inventory.specs.Inventories.{IsInventory, Inventory, inventory_with_need}
use Rattle.vault_inventory.proofs.Told.{needed_is_inventory}
use Rattle.vault_inventory.proofs.inventory.Inventory.set_need.Goals as goal

pub invariant_of-self : goal.invariant_of-self
unfolding inventory_with_need
invariant_of-self c =
    let s : Inventory = record { forest = c.self.inside.forest; credentials = c.self.inside.credentials; terms = c.self.inside.terms.items } in
    let within : c.args.index < length s.forest.entries = subst (λ (x : Inventory). c.args.index < length x.forest.entries) (sym c.self.view_is) c.requires in
    subst (λ (g : Forest). IsInventory (record { forest = g; credentials = s.credentials; terms = s.terms })) (sym c.set_need.ensures.set)
    (needed_is_inventory s c.self.invariant c.args.index within c.args.need (subst IsForest c.set_need.ensures.set c.set_need.ensures.sound))

pub returns : goal.returns
unfolding inventory_with_need
returns c =
    let s : Inventory = record { forest = c.self.inside.forest; credentials = c.self.inside.credentials; terms = c.self.inside.terms.items } in
    ap (λ (g : Forest). record { forest = g; credentials = s.credentials; terms = s.terms }) c.set_need.ensures.set ∙ ap (λ (x : Inventory). inventory_with_need x c.args.index c.args.need) c.self.view_is
