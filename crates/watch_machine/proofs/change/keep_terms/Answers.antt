-- Nothing is written of an entry that is new, or of which the inventory says something else.
use Rattle.std.proofs.Common.{ap}
use Rattle.watch_machine.proofs.Changing.{unwritten}
use Rattle.watch_machine.proofs.change.keep_terms.Goals as goal

pub returns-in_default : goal.returns-in_default
returns-in_default c =
    let g = c.args.forest.now in
    ap (λ es. record { entries = es; margin = g.margin }) (unwritten g.margin c.args.before.now.entries g.entries c.args.index c.args.was c.in_default.not-Same)
