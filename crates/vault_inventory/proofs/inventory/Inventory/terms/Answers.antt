-- The list that the inventory holds has the terms of each entry at its index.
use Rattle.std.proofs.Common.{◌<◌, length, arith, sym, subst, ap, ◌∙◌}
use Rattle.vault_inventory.specs.Inventories.{Inventory, terms_at}
use Rattle.vault_inventory.proofs.Inventories.{terms_read}
use Rattle.vault_inventory.proofs.inventory.Inventory.terms.Goals as goal

pub returns-clause-value : goal.returns-clause-value
returns-clause-value c =
    let entry : c.args.index < length c.self.inside.forest.entries = subst (λ (s : Inventory). c.args.index < length s.forest.entries) (sym c.self.view_is) c.requires in
    let within : c.args.index < length c.self.inside.terms.items = omega (arith, entry, c.self.invariant.terms) in
    terms_read c.self.inside.terms.items c.args.index c.index.result.now within c.index.ensures ∙ ap (λ (s : Inventory). terms_at s.terms c.args.index) c.self.view_is
