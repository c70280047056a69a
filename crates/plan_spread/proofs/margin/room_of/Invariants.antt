-- The lesser of the room so far and that of the entries that are left is the whole room.
use Rattle.std.proofs.Common.{◌≡◌, ◌≤◌, drop, min}
use Rattle.plan_forest.specs.declared.forest.TheConstants.{MARGIN_MAX}
use Rattle.plan_spread.specs.Margins.{room_of}
use Rattle.plan_spread.proofs.margin.room_of.Given as goal

abbrev pub invariant-loop-index : goal.invariant-loop-index
invariant-loop-index l = (min l.room (room_of (drop l.index l.forest.entries)) ≡ room_of l.forest.entries) × (l.room ≤ MARGIN_MAX)
