-- By what each call does.
use Rattle.agent_laws.proofs.Stamped.{ledger_law}
use Rattle.agent_laws.proofs.laws.a_look_spares_disks.Goals as goal

pub returns : goal.returns
returns g c = ledger_law _ _ _ _ _
