-- Three changes of an entry, one after another, set the four fields that a lookup tells.
use Rattle.plan_forest.specs.declared.entry.Entry.{Entry}
use Rattle.vault_inventory.proofs.Told.{set_thrice}
use Rattle.vault_inventory.proofs.lookup.set.Goals as goal

pub returns-clause-set : goal.returns-clause-set
returns-clause-set c =
    set_thrice c.args.forest.now c.set_end.new.self c.set_renewable.new.self c.set_terms.new.self c.args.index
    (λ (e : Entry). record e { end = c.args.end })
    (λ (e : Entry). record e { renewable = c.args.renewable })
    (λ (e : Entry). record e { step = c.args.step; ceiling = c.args.ceiling })
    c.requires.within c.set_end.ensures c.set_renewable.ensures c.set_terms.ensures
