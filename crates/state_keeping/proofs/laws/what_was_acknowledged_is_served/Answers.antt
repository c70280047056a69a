-- What was acknowledged is served.
use Rattle.state_keeping.proofs.Lives.{over_starts}
use Rattle.state_keeping.proofs.laws.what_was_acknowledged_is_served.Goals as goal

pub returns : goal.returns
returns g c = over_starts g.D.Disk.state g.met.D.Disk.counts_now c.records_are_read_back.ensures.one
