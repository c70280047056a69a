-- The credentials of the rows before the place are there.
use Rattle.std.proofs.Common.{◌≡◌, take, true}
use Rattle.state_changes.specs.code.Index.{has_seen}
use Rattle.state_changes.proofs.index.credentials_of.Given as goal

abbrev pub invariant-loop-place : goal.invariant-loop-place
invariant-loop-place l = has_seen l.credentials (take l.place l.rows) ≡ true
