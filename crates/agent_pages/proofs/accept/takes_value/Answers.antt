-- One range more does not take it.
use Rattle.agent_pages.proofs.Ranges.{shorter}
use Rattle.agent_pages.proofs.accept.takes_value.Goals as goal

pub loop-range-smaller : goal.loop-range-smaller
loop-range-smaller c = shorter 44 c.loop-range.rest.now c.in-Some.range.now c.in-Some.ranges.now c.in-Some.ensures
