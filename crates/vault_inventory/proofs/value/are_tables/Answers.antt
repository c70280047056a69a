-- Values are all tables exactly where their views are.
use Rattle.std.proofs.Common.{◌∙◌}
use Rattle.vault_inventory.proofs.Tables.{tables_listed}
use Rattle.vault_inventory.proofs.value.are_tables.Goals as goal

pub returns : goal.returns
returns c = c.all_are_tables.ensures ∙ tables_listed c.args.values.now
