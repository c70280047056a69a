-- Where the forest refuses the entry, its fault is that refusal; else memory was wanting.
use Rattle.vault_inventory.proofs.Refusing.{told_refused}
use Rattle.vault_inventory.proofs.draft.push.Goals as goal

pub returns-in-Err : goal.returns-in-Err
returns-in-Err c =
    let told = told_refused c.args.forest.now c.args.entry c.push.result c.in-Err.fault c.len-index.result c.told.result c.len-index.ensures.value c.in-Err.is c.told.ensures c.push.ensures.refused c.push.ensures.memory in
    record { pushed = told.0; refused = told.1 }
