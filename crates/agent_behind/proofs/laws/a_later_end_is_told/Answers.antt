-- The law of what is told is that of `proofs/Steps`.
use Rattle.agent_behind.proofs.Steps.{told_law}
use Rattle.agent_behind.proofs.laws.a_later_end_is_told.Goals as goal

pub returns : goal.returns
returns g c = told_law
