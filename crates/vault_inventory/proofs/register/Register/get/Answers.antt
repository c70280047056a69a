-- The text at an index is the one that the register's list has there.
use Rattle.std.proofs.Common.{◌<◌, List, ℕ, length, sym, subst, ap, ◌∙◌}
use Rattle.vault_inventory.specs.Inventories.{credential_at}
use Rattle.vault_inventory.proofs.Inventories.{credential_read}
use Rattle.vault_inventory.proofs.register.Register.get.Goals as goal

pub returns : goal.returns
returns c =
    let within : c.args.index < length c.self.inside.texts.items = subst (λ (cs : List (List ℕ)). c.args.index < length cs) (sym c.self.view_is) c.requires in
    c.list.ensures ∙ (credential_read c.self.inside.texts.items c.args.index c.index.result.now within c.index.ensures ∙ ap (λ (cs : List (List ℕ)). credential_at cs c.args.index) c.self.view_is)
