-- The rows so far are those before the current one that are ready.
use Rattle.std.proofs.Common.{◌≡◌, take}
use Rattle.std.specs.List.{filter}
use Rattle.plan_forest.specs.declared.forest.TheConstants.{MAX_DEPTH}
use Rattle.state_store.specs.Handed.{is_ready}
use Rattle.state_store.proofs.handing.all_ready.Given as goal

abbrev pub invariant-loop-row : goal.invariant-loop-row
invariant-loop-row l = l.left.items ≡ filter (is_ready MAX_DEPTH l.rows) (take l.row-index l.rows)
