-- A table's list has these keys alone exactly where its view does.
use Rattle.std.proofs.Common.{◌∙◌}
use Rattle.vault_inventory.specs.Keys.{is_one_of}
use Rattle.vault_inventory.proofs.Keys.{keys_listed}
use Rattle.state_keeping.proofs.table.has_only.Goals as goal

pub returns : goal.returns
returns c = c.are_known.ensures ∙ keys_listed (is_one_of c.args.keys.now) c.args.table.now.entries
