-- The map finds the rows before the place.
use Rattle.std.proofs.Common.{◌≡◌, take, true}
use Rattle.state_changes.specs.code.Index.{is_index}
use Rattle.state_changes.proofs.index.places_of.Given as goal

abbrev pub invariant-loop-place : goal.invariant-loop-place
invariant-loop-place l = is_index l.is_apart l.places (take l.place l.rows) ≡ true
