-- The copies so far are those of the rows before the current one.
use Rattle.std.proofs.Common.{◌≡◌, take}
use Rattle.state_store.specs.Handed.{all_filled}
use Rattle.state_store.proofs.handing.all_filled.Given as goal

abbrev pub invariant-loop-row : goal.invariant-loop-row
invariant-loop-row l = l.copies.items ≡ all_filled l.secrets (take l.row-index l.rows)
