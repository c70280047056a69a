-- It has run with this log.
use Rattle.leasekeep.proofs.Ran.{has_run_by}
use Rattle.leasekeep.proofs.running.run.Goals as goal

pub returns-clause-runs : goal.returns-clause-runs
returns-clause-runs g c done = has_run_by _ _ _ _ _ _ _ _ _ _ _ _ c.args.served.now c.in-Ok-parts_of.parts.log c.args.log c.in-Ok-parts_of.ensures.log (c.run_among.ensures.runs done)
