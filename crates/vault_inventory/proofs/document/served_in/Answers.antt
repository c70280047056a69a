-- What is taken in from a document's tree can be served.
use Rattle.toml.specs.View.{table_view}
use Rattle.vault_inventory.proofs.Inventoried.{intake_is_served}
use Rattle.vault_inventory.specs.Languages.{full}
use Rattle.vault_inventory.proofs.document.served_in.Goals as goal

pub of-requires : goal.of-requires
of-requires c = intake_is_served full (table_view c.args.table.now) c.in_ok-draft.draft _ _ c.in_ok-draft.ensures
