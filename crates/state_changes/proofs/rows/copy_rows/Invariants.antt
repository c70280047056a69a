-- The copies so far are the rows before the current one.
use Rattle.std.proofs.Common.{◌≡◌, take}
use Rattle.state_changes.proofs.rows.copy_rows.Given as goal

abbrev pub invariant-loop-row : goal.invariant-loop-row
invariant-loop-row l = l.copies.items ≡ take l.row-index l.rows
