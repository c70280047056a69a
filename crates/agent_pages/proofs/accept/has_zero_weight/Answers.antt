-- One parameter more is no weight of 0.
use Rattle.agent_pages.proofs.Ranges.{shorter}
use Rattle.agent_pages.proofs.accept.has_zero_weight.Goals as goal

pub loop-parameter-smaller : goal.loop-parameter-smaller
loop-parameter-smaller c = shorter 59 c.loop-parameter.rest.now c.in-Some.parameter.now c.in-Some.others.now c.in-Some.ensures
