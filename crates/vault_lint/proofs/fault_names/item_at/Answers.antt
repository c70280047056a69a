-- The item at a place is what the view of the list has there.
use Rattle.vault_lint.proofs.Names.{got_item}
use Rattle.vault_lint.proofs.fault_names.item_at.Goals as goal

pub returns : goal.returns
returns c = got_item c.args.tables.now c.args.place c.get.result c.get.ensures.lookup
