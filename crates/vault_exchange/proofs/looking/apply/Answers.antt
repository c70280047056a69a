-- What a lookup tells of an entry, applied or refused, leaves as many entries as before.
use Rattle.vault_exchange.proofs.Looked.{same_count}
use Rattle.vault_exchange.proofs.looking.apply.Goals as goal

pub returns-in-Ok-clause-count : goal.returns-in-Ok-clause-count
returns-in-Ok-clause-count c =
    same_count c.args.inventory.now c.apply_lookup.new.self c.args.i c.args.t c.in-Ok.lookup c.apply_lookup.result c.apply_lookup.ensures.refused c.apply_lookup.ensures.applied
