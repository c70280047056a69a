-- Those before the index are marked.
use Rattle.agent_log.specs.LinesOfClocks.{with_ended}
use Rattle.agent_log.proofs.Marking.{Marked}
use Rattle.agent_log.proofs.log_ended.mark_ended.Given as goal

abbrev pub invariant-loop-entry : goal.invariant-loop-entry
invariant-loop-entry l = Marked (with_ended l.agent) l.initial.marks l.marks l.entry
