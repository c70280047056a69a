-- The run at the place has a last moment, from which its gap is counted.
use Rattle.plan_check.proofs.Jumps.{fit_at}
use Rattle.plan_check.proofs.gap_tree.gap_at.Goals as goal

pub last_of-requires-clause-some : goal.last_of-requires-clause-some
last_of-requires-clause-some c = (fit_at c.requires.fit.0 c.args.runs.now c.args.at c.requires.fit.1 c.requires.within).moments.some

pub last_of-requires-clause-within : goal.last_of-requires-clause-within
last_of-requires-clause-within c = (fit_at c.requires.fit.0 c.args.runs.now c.args.at c.requires.fit.1 c.requires.within).moments.last
