-- a_serving_is_a_run: the run, and the first events of it.
use Rattle.agent_turns.proofs.RunOfWatch.{resumed_law, serving_law}
use Rattle.agent_turns.proofs.laws.a_serving_is_a_run.Goals as goal

pub returns-clause-run : goal.returns-clause-run
returns-clause-run c = serving_law

pub returns-clause-start : goal.returns-clause-start
returns-clause-start c = resumed_law
