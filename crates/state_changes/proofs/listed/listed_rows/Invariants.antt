-- The rows so far are those of the entries before the index.
use Rattle.std.proofs.Common.{◌≡◌}
use Rattle.state_changes.specs.Listed.{rows_before}
use Rattle.state_changes.proofs.listed.listed_rows.Given as goal

abbrev pub invariant-loop-index : goal.invariant-loop-index
invariant-loop-index l = l.rows.items ≡ rows_before l.served l.index
