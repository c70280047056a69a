use Rattle.std.proofs.Common.{None, Option, List, ap, sym}
use Rattle.state_changes.specs.{Rows.named, declared.row.Row.Row}
use Rattle.agent_ledger.specs.Lates.{shut_rows}
use Rattle.agent_ledger.proofs.late.Shut.named.Goals as goal

pub returns-in-None : goal.returns-in-None
unfolding named
returns-in-None g c = ap (λ (read : Option (List Row)). named (shut_rows read) c.args.name.now) (sym c.in-None.is)
