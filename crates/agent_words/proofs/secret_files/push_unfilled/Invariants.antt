-- The faults of the rows before the index are said.
use Rattle.agent_words.proofs.Unfilled.{UnfilledSoFar}
use Rattle.agent_words.proofs.secret_files.push_unfilled.Given as goal

abbrev pub invariant-loop-entry : goal.invariant-loop-entry
invariant-loop-entry g l = UnfilledSoFar (g.I.Inputs.bytes_at l.fn.inputs) (g.I.Inputs.bytes_at l.inputs) l.folder l.rows l.fn.faults.items l.faults.items l.entry
