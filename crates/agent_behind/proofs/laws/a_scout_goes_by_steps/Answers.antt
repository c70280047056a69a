-- The laws of steps are those of `proofs/Steps`.
use Rattle.agent_behind.proofs.Steps.{gives_law, goes_law}
use Rattle.agent_behind.proofs.laws.a_scout_goes_by_steps.Goals as goal

pub returns-clause-turns : goal.returns-clause-turns
returns-clause-turns g c = goes_law

pub returns-clause-answers : goal.returns-clause-answers
returns-clause-answers g c = gives_law
