-- The value at a key is the member of that name in the view of the table.
use Rattle.std.proofs.Common.{◌≡◌, List, ℕ, subst}
use Rattle.std.specs.Option.{option_map}
use Rattle.toml.specs.{Data.get_member, View.view, View.table_view}
use Rattle.toml.proofs.Views.{table_get}
use Rattle.vault_inventory.proofs.value.at.Goals as goal

pub returns : goal.returns
returns c =
    let P : List ℕ → Type 0 = λ k. option_map (λ v. view v.now) c.get.result ≡ get_member k (table_view c.args.table.now) in
    subst P c.text.ensures (table_get c.get.result c.text.result.now c.args.table.now.entries c.get.ensures.value)
