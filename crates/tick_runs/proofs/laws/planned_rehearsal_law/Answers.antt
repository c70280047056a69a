-- A rehearsal without faults of a plan within the limit comes to its end with that plan's wake-ups.
use Rattle.tick_runs.proofs.PlannedRun as planned
use Rattle.tick_runs.proofs.laws.planned_rehearsal_law.Goals as goal

pub returns : goal.returns
returns c = planned.planned_rehearsal
