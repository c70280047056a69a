use Rattle.base_journal.proofs.Lives.{over_starts}
use Rattle.base_journal.proofs.laws.what_was_acknowledged_holds.Goals as goal

pub returns : goal.returns
returns g c = over_starts g.D.Disk.state g.met.D.Disk.counts_now
