-- One line less is left.
use Rattle.agent_pages.proofs.Ranges.{shorter}
use Rattle.agent_system.proofs.mounts.is_in_memory.Goals as goal

pub loop-line-smaller : goal.loop-line-smaller
loop-line-smaller c = shorter 10 c.loop-line.rest.now c.in-Some.line.now c.in-Some.lines.now c.in-Some.ensures
