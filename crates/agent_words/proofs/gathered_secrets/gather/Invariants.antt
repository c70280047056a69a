-- What was gathered so far is what the rows before the index give.
use Rattle.agent_words.proofs.Gathering.{GatheredSoFar}
use Rattle.agent_words.proofs.gathered_secrets.gather.Given as goal

abbrev pub invariant-loop-row : goal.invariant-loop-row
invariant-loop-row g l = GatheredSoFar (g.I.Inputs.bytes_at l.fn.inputs) (g.I.Inputs.bytes_at l.inputs) l.folder l.rows l.secrets.items l.said.items l.row-index
