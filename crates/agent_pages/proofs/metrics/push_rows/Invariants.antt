-- What was written, and the samples of the entries to come, are those of all.
use Rattle.std.proofs.Common.{◌≡◌, ◌++◌, drop}
use Rattle.agent_pages.specs.Metrics.{samples_in}
use Rattle.agent_pages.proofs.metrics.push_rows.Given as goal

abbrev pub invariant-loop-row : goal.invariant-loop-row
invariant-loop-row l = l.text.items ++ samples_in l.sample l.column (drop l.row-index l.rows) ≡ l.initial.text.items ++ samples_in l.sample l.column l.rows
