-- Those before the index are marked.
use Rattle.agent_log.specs.LinesOfClocks.{carried_mark}
use Rattle.agent_log.proofs.Marking.{Marked}
use Rattle.agent_log.proofs.log_ended.mark_anew.Given as goal

abbrev pub invariant-loop-entry : goal.invariant-loop-entry
invariant-loop-entry l = Marked (λ i mark. carried_mark l.agent i) l.initial.marks l.marks l.entry
