-- pace_law: the laws as they are proved in Pacing.
use Rattle.watch_laws.proofs.Pacing.{answers_kept, pace_kept}
use Rattle.watch_laws.proofs.laws_of_pace.pace_law.Goals as goal

pub returns-clause-pace : goal.returns-clause-pace
returns-clause-pace c = pace_kept

pub returns-clause-kept : goal.returns-clause-kept
returns-clause-kept c = answers_kept
