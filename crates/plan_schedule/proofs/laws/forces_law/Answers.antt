-- There is one list of forces; it is that of the least and latest plan, and each force is named by the lowest entry.
use Rattle.plan_schedule.proofs.Forces.{forces_are_best, forces_are_lowest}
use Rattle.plan_schedule.proofs.laws.forces_law.Goals as goal

pub returns-clause-forces : goal.returns-clause-forces
returns-clause-forces c = forces_are_best

pub returns-clause-lowest : goal.returns-clause-lowest
returns-clause-lowest c = forces_are_lowest
