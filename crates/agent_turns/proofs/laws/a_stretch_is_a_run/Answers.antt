-- a_stretch_is_a_run: the law as it is proved in Stretch.
use Rattle.agent_turns.proofs.Stretch.{stretch_law}
use Rattle.agent_turns.proofs.laws.a_stretch_is_a_run.Goals as goal

pub returns : goal.returns
returns c = stretch_law
