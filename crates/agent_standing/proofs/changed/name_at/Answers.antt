-- Past the last entry there is no name.
use Rattle.std.proofs.Common.{◌≤◌, ap, arith, length, sym}
use Rattle.plan_forest.specs.declared.entry.Entry.{Entry}
use Rattle.plan_forest.proofs.Entries.{entry_at_past}
use Rattle.agent_standing.proofs.changed.name_at.Goals as goal

pub returns-else-index-len : goal.returns-else-index-len
returns-else-index-len c =
    let past : length c.args.forest.now.entries ≤ c.args.index = omega (arith, c.if-index-len.false, c.len.ensures.value) in
    sym (ap (λ (e : Entry). e.name) (entry_at_past c.args.forest.now.entries c.args.index past))
