-- The rows before the index are filled.
use Rattle.agent_words.proofs.Filled.{FilledSoFar}
use Rattle.agent_words.proofs.secret_files.fill_all.Given as goal

abbrev pub invariant-loop-entry : goal.invariant-loop-entry
invariant-loop-entry g l = FilledSoFar (g.I.Inputs.bytes_at l.fn.inputs) (g.I.Inputs.bytes_at l.inputs) l.folder l.rows l.filled.items l.entry
