-- The first of the moments is no later than the one that it is looked for up to.
use Rattle.std.proofs.Common.{◌≤◌, subst, sym}
use Rattle.vault_lanes.proofs.Due.{soonest_within}
use Rattle.vault_lanes.proofs.running.due.Goals as goal

pub returns-else-has_answer-clause-within : goal.returns-else-has_answer-clause-within
returns-else-has_answer-clause-within g c = subst (λ m. m ≤ c.args.by) (sym c.soonest.ensures) (soonest_within g.L.Line.restless c.args.now c.args.out.now c.args.by)
