-- A map without a name finds no rows.
use Rattle.std.proofs.Common.{true}
use Rattle.state_changes.proofs.Finding.{index_empty}
use Rattle.state_changes.proofs.index.places_of.Goals as goal

pub loop-place-init : goal.loop-place-init
loop-place-init c = index_empty true c.new-places.result
